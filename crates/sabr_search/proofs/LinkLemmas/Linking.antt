-- The links that a plan has for a node are those of a search, and what bounds their passes.
use Rattle.std.proofs.Common.{◌≡◌, ℕ, ◌+◌, ◌-◌, ◌*◌, ◌≤◌, true, false, cond, eqb, List, [], ◌∷◌, length, map, take, slice_get, refl, sym, ap, ◌∙◌, arith}
use Rattle.std.specs.List.{count_by, sum_by, filter}
use Rattle.std.specs.declared.option.Option.TheVariants.{Some}
use Rattle.std.proofs.lemmas.Bool.{eqb-true, eq-eqb}
use Rattle.std.proofs.lemmas.List.Sums.{sum_by-cons}
use Rattle.std.proofs.lemmas.Option.{slice_get_within}
use Rattle.std.proofs.Math.Nat.{mul-le-mul}
use Rattle.sabr_model.specs.declared.contact.Contact.{Contact}
use Rattle.sabr_index.specs.declared.link.Pass.{Pass}
use Rattle.sabr_index.specs.declared.link.Link.{Link}
use Rattle.sabr_model.specs.routes.Arrival.{cost}
use Rattle.sabr_model.specs.plan.Plan.{contact_named}
use Rattle.sabr_index.specs.Links.{AreLinksOf, IsLinkOf, IsPassOf, SentLink, AreLinksTo, passes_over}
use Rattle.sabr_search.specs.questions.Task.{SearchTask, IsTask}
use Rattle.sabr_search.specs.questions.Linked.{place_in, received, IsPassAt, IsLinkAt, AreLinksAt, AreSendersAt}
use Rattle.sabr_search.proofs.LinkLemmas.PlanFacts.{arrival_parts, place_is, sum_taken, sum_taken_le}
use Rattle.sabr_model.proofs.ListLemmas.Different.{part_has}
use Rattle.sabr_search.proofs.WayLemmas.RoutesAndWays.{same_some}

-- a node's contacts, by their senders or by their receivers, are as many as those of its place
ends_few : (end : Contact → ℕ) (table : List ℕ) (u node : ℕ) → place_in table node ≡ u → (cs : List Contact) →
    length (map (λ (c : Contact). c.number) (filter (λ (c : Contact). eqb node (end c)) cs)) ≤ count_by (λ k. eqb k u) (map (λ (c : Contact). place_in table (end c)) cs)
ends_few end table u node here [] = omega arith
ends_few end table u node here (c ∷ cs) =
    let more = sum_by-cons (λ (k : ℕ). cond (eqb k u) 1 0) (place_in table (end c)) (map (λ (d : Contact). place_in table (end d)) cs) in
    let rest = ends_few end table u node here cs in
    elim (eqb node (end c)) as (λ b. eqb node (end c) ≡ b → length (map (λ (d : Contact). d.number) (cond b (c ∷ filter (λ (d : Contact). eqb node (end d)) cs) (filter (λ (d : Contact). eqb node (end d)) cs))) ≤ count_by (λ k. eqb k u) (map (λ (d : Contact). place_in table (end d)) (c ∷ cs))) [
      | true ↦ λ e.
          (let one : cond (eqb (place_in table (end c)) u) 1 0 ≡ cond true 1 0 = ap (λ b. cond {A = ℕ} b 1 0) (eq-eqb (place_in table (end c)) u (ap (place_in table) (sym (eqb-true node (end c) e)) ∙ here)) in
          omega (arith, more, rest, one))
      | false ↦ λ e. omega (arith, more, rest)
    ] refl

module _ (task : SearchTask) (is : IsTask task) (u node : ℕ) (at : slice_get task.table u ≡ Some node) where
  pass_at : (to w : ℕ) (x : Pass) → slice_get task.table w ≡ Some to → IsPassOf (record { plan = task.plan; table = task.table }) node to x → IsPassAt task u w x
  pass_at to w x there p = record {
    contact = p.contact;
    named = p.named;
    sender = at ∙ ap Some (sym p.sender);
    receiver = there ∙ ap Some (sym p.receiver);
    start = p.start;
    end = p.end;
    light = p.light;
  }

  link_at : (passes : List Pass) (l : Link) → IsLinkOf (record { plan = task.plan; table = task.table }) node passes l → IsLinkAt task u l.receiver (passes_over passes l)
  link_at passes l link = record {
    each = λ k x h. pass_at link.to l.receiver x link.receiver (link.each k x h);
    kept = link.row.kept;
    in_rows = link.row.in_rows;
  }

  -- what a plan says of a node's links, of a search
  pub links_at : (links : List Link) (passes : List Pass) → AreLinksOf (record { plan = task.plan; table = task.table }) node links passes → AreLinksAt task u links passes
  links_at links passes of = record {
    receivers = λ j l h. slice_get_within task.table l.receiver (of.each j l h).to (of.each j l h).receiver;
    ordered = λ j l h. (let row = (of.each j l h).row in omega (arith, row.filled));
    within = λ j l h. (of.each j l h).row.ends;
    each = λ j l h. link_at passes l (of.each j l h);
    bounds = λ j l h. (of.each j l h).row.within;
    in_row = of.in_row;
    whole = λ n t w b s.
        (let a = arrival_parts task.plan task.request t s.contact b s.arrives in
        let from : s.contact.from ≡ node = same_some (sym s.sender ∙ at) in
        let p = of.whole n a.light s.contact s.named from a.in_force in
        let j = p.0 in
        let k = p.1 in
        let l = p.2 in
        let x = p.3 in
        (j, l, p.4, (k - l.first, x, part_has passes l.first l.end k x p.5 p.6 (of.each j l p.4).row.ends p.7, p.8)));
    few = omega (arith, of.few, ends_few (λ (c : Contact). c.from) task.table u node (place_is task.plan task.table is.nodes u node at) task.plan.contacts);
  }

-- what a plan says of the links to a node, of a search
pub senders_at : (task : SearchTask) → IsTask task → (w node : ℕ) → slice_get task.table w ≡ Some node → (links : List SentLink) → AreLinksTo (record { plan = task.plan; table = task.table }) node links → AreSendersAt task w links
senders_at task is w node here links of = record {
  senders = λ j l h. slice_get_within task.table l.sender (of.each j l h).from (of.each j l h).at;
  each = λ j l h.
      (let link = of.each j l h in
      record {
        each = λ k x at. pass_at task is l.sender link.from link.at node w x here (link.each k x at);
        kept = link.kept;
        in_rows = link.in_rows;
      });
  whole = λ n u t b s.
      (let a = arrival_parts task.plan task.request t s.contact b s.arrives in
      let to : s.contact.to ≡ node = same_some (sym s.receiver ∙ here) in
      let p = of.whole n a.light s.contact s.named to a.in_force in
      let k = p.1 in
      let l = p.2 in
      let x = p.3 in
      let link = of.each p.0 l p.4 in
      let pass = link.each k x p.5 in
      let same : pass.contact ≡ s.contact = same_some (sym pass.named ∙ ap (contact_named task.plan) p.6 ∙ s.named) in
      let from : s.contact.from ≡ link.from = ap (λ (c : Contact). c.from) (sym same) ∙ pass.sender in
      (p.0, l, p.4, is.nodes.apart l.sender u link.from link.at (s.sender ∙ ap Some from), (k, x, p.5, p.6)));
  few = omega (arith, of.few, ends_few (λ (c : Contact). c.to) task.table w node (place_is task.plan task.table is.nodes w node here) task.plan.contacts);
}

-- a lighter contact costs no more
pub cost_rises : (margin l m : ℕ) → l ≤ m → cost margin l ≤ cost margin m
cost_rises margin l m le = let product : l * margin ≤ m * margin = mul-le-mul le (omega arith) in omega (arith, product)

-- the passes of the links to a node up to one of them
pub passes_within : (task : SearchTask) (w : ℕ) (links : List SentLink) → AreSendersAt task w links → (k : ℕ) (s : SentLink) → slice_get links k ≡ Some s →
    (sum_by (λ (x : SentLink). length x.passes) (take (k + 1) links) ≡ sum_by (λ (x : SentLink). length x.passes) (take k links) + length s.passes)
    × (sum_by (λ (x : SentLink). length x.passes) (take k links) + length s.passes ≤ received task w)
passes_within task w links are k s at =
    let more = sum_taken (λ (x : SentLink). length x.passes) links k s at in
    (more, omega (arith, more, are.few, sum_taken_le (λ (x : SentLink). length x.passes) links (k + 1)))
