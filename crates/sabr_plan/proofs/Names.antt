-- The names that several of these proofs take from std, the logic and the model.
pub use Rattle.std.proofs.Common.{◌≡◌, ℕ, ◌-◌, ◌<◌, ◌≤◌, Bool, true, false, List, [], ◌∷◌, ◌++◌, length, get_or, map, refl, sym, ap, subst, ◌∙◌, arith, length-append, ◌+◌, ◌*◌, Result, Ok, Err, ◌⊎◌, not, eqb, take, length-take, get_or-take, ◌≢◌, inl, inr, append_assoc, OnOk, IfErr, zero, suc, rules, pos, ◌+ℤ◌, w16, w8, to_z, of_z, ◌&&◌, cond, ◌%◌, drop, add-zero, append-nil, get_or-drop, length-drop, filter, set, ◌==◌, Option, Some, None, ok_or, ◌/◌, ◌^◌, leb, decimal, lit<, unsigned_abs, IfSome, take-take, ltb, codes, IsNone}
pub use Rattle.sabr_model.proofs.PlanLemmas.ContactLemmas.{all_push, IsPlan-empty, IsPlan-push}
pub use Rattle.sabr_model.proofs.PlanLemmas.Deletions.{opens_parts, IsPlan-fewer_ranges, IsPlan-fewer_contacts}
pub use Rattle.sabr_model.proofs.PlanLemmas.KeyOrder.{IsBy, by_key_total, less_is, not_less_is, not_both, le_itself}
pub use Rattle.sabr_model.proofs.PlanLemmas.RangeLemmas.{accepted_range, same_key_overlaps, IsPlan-range}
pub use Rattle.sabr_model.proofs.PlanLemmas.RangeOrder.{range_list, find_none}
pub use Rattle.sabr_model.specs.Devices.{Input, Gives, HasEnded, Output, Written, WrittenInPart}
pub use Rattle.sabr_model.specs.Order.{by_key, put_in}
pub use Rattle.sabr_model.specs.declared.contact.Contact.{Contact}
pub use Rattle.sabr_model.specs.declared.contact.Range.{Range}
pub use Rattle.sabr_model.specs.declared.opening.Opening.{Opening}
pub use Rattle.sabr_model.specs.plan.Adding.{range_refusal, first_refusal, by_range_key, contact_refusal, begins, next_contact, with_contact, without_contact, new_range, with_range, without_range}
pub use Rattle.sabr_model.specs.plan.Plan.{TabledPlan, IsPlan, IsNode, IsWindow, overlap, range_key, last_time, opens, same_opening, none_twice, ContactPlan}
pub use Rattle.std.proofs.lemmas.Bool.{false_from_ne_true, cases_lt, cases_Bool, and_parts, not-false, not-true, both_ways, cases_order, cases_eq, leb-true, ne_eqb, lt-ltb, le-ltb, false≢true}
pub use Rattle.std.proofs.lemmas.Bool.Decides.{nat_tests}
pub use Rattle.std.proofs.lemmas.Grind.{get_or_default_zero, common_steps}
pub use Rattle.std.proofs.lemmas.List.{get_or_append_left, get_or-map, map-append, drop_all, take-append-drop, get_or-append-add, get_or_default, length-map, drop_more, get_or-set_same, get_or-set_other, length-set, take_more, take_all, nil_from_length}
pub use Rattle.std.proofs.lemmas.List.Folds.{list_all-append, list_any_at, list_all_more}
pub use Rattle.std.proofs.lemmas.List.Recursion.{or_from_places}
pub use Rattle.std.proofs.lemmas.List.Sorted.{IsPermutation-refl, IsPermutation-sym, IsPermutation-trans, IsPermutation-cons, IsPermutation-middle, IsPermutation-push_more, ranks_by, sorted_far, sum_by-IsPermutation, list_any-IsPermutation, length_permutation, answers_always}
pub use Rattle.std.proofs.lemmas.List.Sums.{list_all-from_AllPass, sum_by-cons, AllPass-from_list_all, fails_before_first, passes_at_first, prefix_len-le-length}
pub use Rattle.std.proofs.lemmas.Option.{slice_get-map, slice_get-get_or, same_Some, slice_get_within, none-some}
pub use Rattle.std.proofs.lemmas.Result.{IfOk-weaker, err_from_is_err_and}
pub use Rattle.std.proofs.lemmas.Slice.Eq.{bytes_eq-Decides, text_from_reads}
pub use Rattle.std.specs.BTreeMap.{BTreeMap, get, insert_entry, is_at, values, Updates}
pub use Rattle.std.specs.List.{list_any, AllByRecursion, All, list_all, position, position_or_len, find, flat_map}
pub use Rattle.std.specs.Ordering.{is_lt, is_le, is_gt, match_ordering}
pub use Rattle.std.specs.Prelude.{slice_get, SomeIff, IsPermutation, sum_by, unwrap_or, option_map, is_some, nat_lt, nat_le, MatchResult, if◌then◌else◌, bit_and, bit_or, slice_range, bit_xor, is_none}
pub use Rattle.std.specs.Str.{bytes_eq}
pub use Rattle.std.specs.Str.Parse.{digits_value}
pub use borrow.Author.Tests.{ltb-true, eqb-true, le-leb}
pub use lib.Bits.{and_block, or_block, or_lt, xor_lt, and_mask}
pub use lib.Lanes.{number_l, digits_l}
