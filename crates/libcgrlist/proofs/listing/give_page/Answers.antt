use Rattle.std.proofs.Common.{◌∙◌, subst}
use Rattle.sabr_model.specs.routes.Arrival.{RouteRequest}
use Rattle.sabr_model.specs.routes.Asking.{IsRequest}
use Rattle.libcgrlist.proofs.PageLemmas.{few_records, short_records}
use Rattle.libcgrlist.proofs.listing.give_page.Goals as goal

pub write_routes-page-requires-clause-few : goal.write_routes-page-requires-clause-few
write_routes-page-requires-clause-few c = few_records c.args.session.now c.args.count c.as_slice.result.now (c.as_slice.ensures.value ∙ c.in_ok-routes.ensures.routes) c.requires

pub write_routes-page-requires-clause-short : goal.write_routes-page-requires-clause-short
write_routes-page-requires-clause-short c = short_records c.args.session.now c.args.count c.as_slice.result.now (c.as_slice.ensures.value ∙ c.in_ok-routes.ensures.routes) (subst (λ (r : RouteRequest). IsRequest r) c.request.ensures c.limits_hold.ensures) c.page.ensures.new_routes
