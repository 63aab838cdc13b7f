use Rattle.sabr_frontier.proofs.ListingLemmas.NewRoutes.{pages_give_new_routes}
use Rattle.sabr_frontier.proofs.laws.pages_give_new_routes.Goals as goal

pub returns : goal.returns
returns c = pages_give_new_routes
