-- The names of std and of the specifications that proofs on lists and routes cite, passed on from one place.
pub use Rattle.std.proofs.Common.{All, Bool, Contains, Equal, Err, Fits, Greater, IfSome, IsPermutation, IsTrue, Less, List, None, Ok, Option, Ordering, Result, Some, [], add-one, ap, append-nil, append_assoc, arith, bit_and, bit_or, cond, drop, drop-cons, drop-set-lt, drop_of_length-le, eq-eqb, eqb, eqb-true, false, filter, find, flat_map, fold, get_or, get_or-drop, get_or-set_other, get_or-set_same, get_or-take, inl, inr, is_eq, is_lt, is_none, is_some, le-leb, le-ltb, leb, leb-true, length, length-append, length-drop, length-set, length-take, lt-ltb, ltb, ltb-true, map, max, min, mod-lt, nat_cmp, nat_eq, ne_eqb, not, option_and_then, option_copied, option_map, refl, replicate, rules, set, slice_get, slice_index_or, slice_set, subst, suc, sym, take, take-add, take-append-drop, take_all, true, true≢false, unwrap_or, w64, zero, ℕ, ⊎_elim, ◌%◌, ◌&&◌, ◌*◌, ◌++◌, ◌+◌, ◌-◌, ◌/◌, ◌<◌, ◌==◌, ◌^◌, ◌||◌, ◌∙◌, ◌∷◌, ◌≡◌, ◌≢◌, ◌≤◌, ◌⊎◌}
pub use Rattle.std.proofs.KnownBytes.{Appends-kept, Appends-nil, Appends-trans, Consumes-kept, Consumes-nil, Consumes-trans}
pub use Rattle.std.proofs.Math.Seq.{drop-set-add, take-set-le}
pub use Rattle.std.proofs.lemmas.Bool.{and_from, and_parts, both_ways, cases_Bool, cases_eq, cases_lt, cond-true, cond_both, false_from_ne_true, not-false, not-true, not_from_false, or_cases, or_from, or_left, or_parts, or_right}
pub use Rattle.std.proofs.lemmas.Bool.Decides.{nat_tests}
pub use Rattle.std.proofs.lemmas.List.{append_cancel_left, drop-set, drop_all, get_or_default, get_or_past, map-append, take_more}
pub use Rattle.std.proofs.lemmas.List.Elements.{filter-append, filter_map-append}
pub use Rattle.std.proofs.lemmas.List.Folds.{list_all-append, list_any-append, list_any_at}
pub use Rattle.std.proofs.lemmas.Option.{get_or_from_slice_get, none-some, same_Some, slice_get-get_or, slice_get_within}
pub use Rattle.std.specs.Cmp.{IsTotalOrder, nat_cmp_total, nat_eq_equiv, tied_itself}
pub use Rattle.std.specs.FinMap.{nat_cmp-IsAntisymmetric, slice_cmp-IsAntisymmetric}
pub use Rattle.std.specs.List.{AllByRecursion, cons_option, list_all, list_any, range_with_len}
pub use Rattle.std.specs.Option.{option_map_or}
pub use Rattle.std.specs.Ordering.{ordering_reverse, ordering_then}
pub use Rattle.sabr_model.specs.Devices.{Gives, GivesNone, HasEnded, Input, IsTextOf, Output, Takes, TakesAll, TakesNone, WritesText, Written, WrittenInPart, none_given, stall_faults}
pub use Rattle.sabr_model.specs.Grouping.{AreCounts, AreGroupedBy, AreOnce, IsFilled, sum_before, those, those_below}
pub use Rattle.sabr_model.specs.Laws.{ArrivalIsMonotone, CandidatesAreListed, EveryWayIsListed, FaultsTellRoutes, NoRouteBeginsAnother, RoutesAreListed}
pub use Rattle.sabr_model.specs.Order.{by_numbers, in_order, put_in, same_numbers}
pub use Rattle.sabr_model.specs.declared.contact.Contact.{Contact}
pub use Rattle.sabr_model.specs.declared.fault.HopFault.{HopFault}
pub use Rattle.sabr_model.specs.declared.fault.HopFault.TheVariants.{AvoidedNode, NoLight, NoSuchContact, NodeAgain, NotChained, TooLate, TooManyHops, WrongEnd}
pub use Rattle.sabr_model.specs.plan.Light.{light_of}
pub use Rattle.sabr_model.specs.plan.Plan.{ContactPlan, IsNode, IsPlan, IsWindow, TabledPlan, are_different, contact_named, has, last_time, none_twice, rises_above}
pub use Rattle.sabr_model.specs.plan.Tabled.{IsHopOf, IsTabled}
pub use Rattle.sabr_model.specs.routes.Arrival.{RouteRequest, arrival, arrival_after, cost}
pub use Rattle.sabr_model.specs.routes.Fault.{contact_fault, fault_at, fault_of, fault_or, first_fault}
pub use Rattle.sabr_model.specs.routes.Following.{AreMet, IsFollowedPath, IsReachedBy, has_index, receives}
pub use Rattle.sabr_model.specs.routes.Journeys.{CanArrive, FirstDeliversBy, IsJourney, MeetsNoneTwice, asked_at}
pub use Rattle.sabr_model.specs.routes.Listing.{routes}
pub use Rattle.sabr_model.specs.routes.Route.{IsPath, IsRoute, by_key, chain_end, contacts_of, delivery_of, ends_at, entry_of, is_path, is_route, key_of, receivers, until_of}
pub use Rattle.sabr_model.specs.routes.Telling.{summary_of}
