-- The names that several of these proofs take from std, the logic, the crates below and the definitions of this crate.
pub use Rattle.sabr_frontier.specs.declared.giving.give_next.GivenRoute.{GivenRoute}
pub use Rattle.sabr_frontier.specs.declared.loader.load_fault.LoadFault.{LoadFault}
pub use Rattle.sabr_frontier.specs.declared.loader.load_fault.LoadFault.TheVariants.{BadCount, BadOrder, BadRoute, NoMemory, NotClosed}
pub use Rattle.sabr_frontier.specs.declared.tree.Node.{Node}
pub use Rattle.sabr_frontier.specs.declared.tree.NodeId.{NodeId}
pub use Rattle.sabr_frontier.specs.listing.Formed.{InOrder, IsClosed, IsWellFormed, Within}
pub use Rattle.sabr_frontier.specs.listing.Laws.{CarriesLeast, LeavesComeFirst, PartsDivide, StatesAreTold, StepsFollow}
pub use Rattle.sabr_frontier.specs.listing.Listing.{IsState, carries_it, given_first, leaves_in, next_route, one_step, searches_for, searches_in, state_at, steps}
pub use Rattle.sabr_frontier.specs.listing.Rising.{Below, Rises, has}
pub use Rattle.sabr_frontier.specs.listing.State.{InPairs, Member, PartState, State, last_from, last_of, leaves, leaves_of, pair_of, part_with}
pub use Rattle.sabr_frontier.specs.listing.Step.{better, carried_in, carry, full, given, least_carried, parts_after, same_pair, state_of}
pub use Rattle.sabr_frontier.specs.listing.Tree.{numbers_after, prefixes, proper_beginnings, put_all, put_number, set_of, tree}
pub use Rattle.sabr_frontier.specs.loading.Loading.{IsCarryFault, IsClosedState, IsCounted, IsRefusedBy, Loaded, comes_after, may_carry, refusal_by, rise_strictly, session_with, state_with, with_part}
pub use Rattle.sabr_frontier.specs.loading.Partial.{AllGoOn, AreExpected, AreSteps, Expects, IsAnswered, IsChecked, IsGiven, IsGood, IsLastPlace, IsLoader, IsPartial, IsPathEnd, IsVerdict, PartialShape, expected_after, expected_in, expected_prefix, is_after_last, is_complete, is_expected, is_least, last_prefix, loaded, loaded_tree, nodes_of, nothing_yet, onward, partial_shape_of, step_of, with_node}
pub use Rattle.sabr_frontier.specs.session.Paused.{IsPausedOver, former_states, seen_over}
pub use Rattle.sabr_frontier.specs.session.Session.{AreStarts, IsSession, IsSound, IsSoundFor, IsStarted, Seen, former_of, former_then, next_page, page_searches, seen, seen_part, session_over, started, tree_before}
pub use Rattle.sabr_frontier.specs.tree.Best.{best_of, best_up_to, found_by, up_to}
pub use Rattle.sabr_frontier.specs.tree.Giving.{OfNode, changed_by, divided_into, divided_with, fresh_after, fresh_nodes, ids_from, passing, wide_of, widened, with_block}
pub use Rattle.sabr_frontier.specs.tree.Left.{CarriesNoOther, HasLooks, longer_go_on, others_carry, part_goes_on, some_carry}
pub use Rattle.sabr_frontier.specs.tree.PageTrees.{AreApart, AreCutBy, AreFound, IsBestWhere, IsCutOf, IsCutTree, IsMerged, IsNextGiven, IsPart, ShowsCut, carries_before, carrying, count_before, excluding, given_by}
pub use Rattle.sabr_frontier.specs.tree.Searching.{Asked, GoOn, IsAtRest, IsSumOf, Searching, best_for, call_looks, looks_since, records_for, searching_first, steps_for, without}
pub use Rattle.sabr_frontier.specs.tree.Shape.{IsBefore, Shape, by_prefix, contacts_in, front_of, given_at, numbers_of, order_of, part_at, part_of, prefix_of, root, route_at, route_of, shape_of, shown, stands_before}
pub use Rattle.sabr_frontier.specs.tree.SmallestKeys.{AreLeast, AreNoted, CarryKeys, IsBoundOf, SeenKeys, carried_keys, key_hops, keys_of}
pub use Rattle.sabr_frontier.specs.tree.Sound.{AreGiven, CanExclude, CarriesOnlyLeast, IsLent, IsTree}
pub use Rattle.sabr_frontier.specs.tree.Undo.{CanUndo, CanUndoTimes, IsIndexBack, IsIndexed, IsLonger, IsRoomy, IsSpacious, front, given_back, including, last_item, modify, undone, undone_by, undone_times}
pub use Rattle.sabr_frontier.specs.tree.Winners.{AreOthersWinners, AreWinners, CarriesNone, CarriesSome, IsAbove, IsBeside, IsBestOf, IsFirst, IsLesser, IsNext, IsNoGreater, IsSiftedUp, IsWinner, IsWon, high, is_lesser, low, winner_at}
pub use Rattle.sabr_index.specs.Looks.{looks_taken, many_looks}
pub use Rattle.sabr_model.proofs.RouteLemmas.Least.{least_some, member_is_route, record_order, route_is_member}
pub use Rattle.sabr_model.proofs.RouteLemmas.Listed.{key_tells, key_total}
pub use Rattle.sabr_model.proofs.RouteLemmas.Prefixes.{beginning_goes_on, beginning_is_prefix, empty_is_path, empty_is_prefix, prefix_goes_on, prefix_is_no_route}
pub use Rattle.sabr_model.proofs.RouteLemmas.Routes.{empty_route, route_facts}
pub use Rattle.sabr_model.specs.Order.{by_numbers, in_order, numbers_before, put_in, same_numbers}
pub use Rattle.sabr_model.specs.plan.Plan.{ContactPlan, IsPlan, TabledPlan, contact_named, last_time, rises_above}
pub use Rattle.sabr_model.specs.routes.Arrival.{RouteRequest, arrival, arrival_after}
pub use Rattle.sabr_model.specs.routes.Listing.{page_of, routes}
pub use Rattle.sabr_model.specs.routes.Parts.{goes_on, in_part, least_in, number_after}
pub use Rattle.sabr_model.specs.routes.Record.{RouteRecord, by_record, by_record_total, record_key, record_of, summary_entry, summary_until}
pub use Rattle.sabr_model.specs.routes.Route.{before, by_key, delivery_of, is_path, is_prefix, is_route, key_of}
pub use Rattle.sabr_search.proofs.WayLemmas.Prefixes.{goes_on-append, goes_on_parts, number_after-append, number_after_some}
pub use Rattle.sabr_search.specs.declared.bound.Bound.{Bound}
pub use Rattle.sabr_search.specs.questions.Bounded.{IsDecided, IsFloor, IsSought, is_up_to, no_bound}
pub use Rattle.sabr_search.specs.questions.Calls.{Calls, no_calls, with_call}
pub use Rattle.sabr_search.specs.questions.Detours.{GoesOtherwise, IsOtherWay, detour_looks}
pub use Rattle.std.proofs.Common.{Bool, Err, List, None, Ok, Option, Some, [], ap, append-nil, append_assoc, arith, cond, drop, drop-cons, eqb, false, filter, flat_map, get_or, heap_items, if◌then◌else◌, inl, inr, insert, length, length-append, length-drop, length-take-le, ltb, map, min, nat_eq, nat_lt, not, of_calls, refl, reverse, rules, set, slice_index, slice_set, subst, suc, sym, take, take-suc, true, true≢false, vec_capacity, vec_len, zero, zero-add, ℕ, ◌&&◌, ◌*◌, ◌++◌, ◌+◌, ◌-◌, ◌/◌, ◌<◌, ◌||◌, ◌∙◌, ◌∷◌, ◌≡◌, ◌≢◌, ◌≤◌, ◌⊎◌}
pub use Rattle.std.proofs.Math.Seq.{get_or-append_seam, take-append_seam}
pub use Rattle.std.proofs.lemmas.Bool.{and_from, and_parts, cases_Bool, cases_eq, cases_lt, cond-false, cond-true, eq-eqb, eqb-false, eqb-true, false_from_ne_true, le-leb, le-ltb, leb-false, leb-true, lt-ltb, ltb-false, ltb-true, not_from_false, or_cases, or_left, or_parts, or_right}
pub use Rattle.std.proofs.lemmas.Bool.Decides.{nat_tests}
pub use Rattle.std.proofs.lemmas.Cmp.{alike_right, nat_cmp_total, nat_list_cmp_total, tied_itself, upto}
pub use Rattle.std.proofs.lemmas.Fn.{always_returns_same, filter_same}
pub use Rattle.std.proofs.lemmas.List.{append_cancel_left, drop-append-le, drop-set, drop-take, drop_all, drop_at, get_or-set_other, get_or-set_same, get_or_append_left, get_or_at, length-map, length-reverse, length-set, length-take, length_push, map-append, map-id, nil_from_length, reverse-append, reverse-reverse, same_from_push, take-append-drop, take-append-le, take-map, take-set-le, take-take, take_all, take_at, take_more}
pub use Rattle.std.proofs.lemmas.List.Elements.{All-append, All-cons, All-head, All-nil, All-tail, filter-append}
pub use Rattle.std.proofs.lemmas.List.Sorted.{Contains-permutation, IsPartitionPoint-from_clause, IsPermutation-append_comm, IsPermutation-append_left, IsPermutation-append_right, IsPermutation-refl, IsPermutation-sym, IsPermutation-to_front, IsPermutation-trans, le_from_greatest, length_permutation, ranks_by, sorted_far, sum_by-IsPermutation}
pub use Rattle.std.proofs.lemmas.Option.{get_or_from_slice_get, slice_get-get_or, slice_get-map, slice_get_within}
pub use Rattle.std.specs.Cmp.{IsTotalOrder, both_ways, nat_cmp_is, on_total}
pub use Rattle.std.specs.Cmp.Lexicographic.{other_text, same_text}
pub use Rattle.std.specs.List.{AllByRecursion, IsAllAdjacentAnswer, copy_within, find, list_any, sum_by}
pub use Rattle.std.specs.List.Sorted.{IsPartitionPoint, IsPartitionedBy, IsSorted, IsStrictlyIncreasing}
pub use Rattle.std.specs.Option.{option_and_then, option_copied, option_map, option_map_or}
pub use Rattle.std.specs.Ordering.{is_eq, is_gt, is_lt, nat_cmp, on, ordering_index, ordering_reverse, ordering_then, then_cmp}
pub use Rattle.std.specs.Prelude.{All, Contains, IfErr, IfNone, IfOk, IfSome, IsFalse, IsPermutation, IsSome, IsTrue, Result, is_some, nat_le, slice_get, slice_index_or, unwrap_or, ◌==◌, ◌↔◌}
pub use Rattle.std.specs.declared.cmp.Ordering.{Ordering}
pub use Rattle.std.specs.declared.cmp.Ordering.TheVariants.{Equal, Greater, Less}
