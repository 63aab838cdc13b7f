use Rattle.std.proofs.Common.{◌≡◌, ℕ, ◌<◌, Some, length, get_or}
use Rattle.std.specs.Prelude.{slice_get}
use Rattle.indexmap.specs.IndexMap.{keys}
use Rattle.sabr_model.specs.declared.contact.Contact.{Contact}
use Rattle.sabr_model.specs.declared.plan.known.Known.{Known}
use Rattle.sabr_model.proofs.plan.known.renew_known.Given as goal

abbrev pub invariant-loop-place : goal.invariant-loop-place
invariant-loop-place g l = record {
  as_many : length l.known.items ≡ length l.contacts;
  from : (k : ℕ) (d : Contact) (e : Known) → k < l.place → slice_get (keys l.table) (get_or l.known.items k e).from ≡ Some (get_or l.contacts k d).from;
  to : (k : ℕ) (d : Contact) (e : Known) → k < l.place → slice_get (keys l.table) (get_or l.known.items k e).to ≡ Some (get_or l.contacts k d).to;
  lights : (k : ℕ) (e : Known) → (get_or l.known.items k e).light ≡ (get_or l.fn.known.items k e).light;
}
