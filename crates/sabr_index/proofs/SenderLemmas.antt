-- The links that lead to a node: each from its sender, all that there are, and no more passes than the node receives contacts.
use Rattle.std.proofs.Common.{◌≡◌, ℕ, suc, ◌+◌, ◌-◌, ◌<◌, ◌≤◌, true, eqb, List, [], ◌∷◌, get_or, length, refl, sym, ap, subst, ◌∙◌, inl, inr, arith}
use Rattle.std.specs.Prelude.{slice_get, Some, nat_eq, unwrap_or}
use Rattle.std.specs.List.{flat_map, filter, find, position}
use Rattle.std.specs.Option.{option_map}
use Rattle.std.specs.Cmp.{nat_eq_equiv}
use Rattle.std.proofs.lemmas.Bool.{cases_order, eq-eqb}
use Rattle.std.proofs.lemmas.List.Concat.{flat_map-cons, length-flat_map}
use Rattle.std.proofs.lemmas.List.Elements.{All-map}
use Rattle.std.proofs.lemmas.List.Folds.{flat_map-map}
use Rattle.std.proofs.lemmas.List.Sorted.{IsNonDecreasingBy-from_all_adjacent}
use Rattle.std.proofs.lemmas.List.{length-map}
use Rattle.std.proofs.lemmas.Map.Made.{length-le_from_is_member}
use Rattle.std.proofs.lemmas.Option.{same_Some, slice_get-map, slice_get-get_or, get_or_from_slice_get, slice_get_within, slice_get_cases}
use Rattle.sabr_model.specs.declared.contact.Contact.{Contact}
use Rattle.sabr_index.specs.declared.link.Pass.{Pass}
use Rattle.sabr_index.specs.declared.link.Link.{Link}
use Rattle.sabr_index.specs.declared.senders.Incoming.{Incoming}
use Rattle.sabr_model.specs.plan.Plan.{TabledPlan, contact_named, has, are_different}
use Rattle.sabr_model.specs.plan.Tabled.{IsTabled}
use Rattle.sabr_index.specs.Links.{NodeLinks, IsPassOf, AreLinksOf, numbers_of, passes_over, received_by, SentLink, IsLinkTo, AreLinksTo}
use Rattle.sabr_index.specs.Linking.{AreLinked}
use Rattle.sabr_index.specs.Incoming.{passes_named, links_named, LieThere, HasLink, HaveReceivers, AreIncoming}
use Rattle.sabr_model.proofs.ListLemmas.Different.{different_append, part_at, part_has}
use Rattle.sabr_model.proofs.ListLemmas.Members.{IsIn, in_map, in_filter, flat_map_in, Contains-from_in}
use Rattle.sabr_index.proofs.PassNumbers.{pass_of_number, number_once, numbers_part}
use Rattle.sabr_model.proofs.RouteLemmas.Listed.{in_from_has, has_from_in, named_is, distinct_from_different}
use Rattle.sabr_model.proofs.PlanLemmas.Tabled.{index_tells, index_of_member, place_one}
use Rattle.sabr_model.proofs.PlanLemmas.Without.{ends_of_found}

-- ---- lists

-- the number of a contact to the node is among those that it receives
number_received : (cs : List Contact) (n : ℕ) (c : Contact) → find (λ d. eqb d.number n) cs ≡ Some c → has n (received_by cs c.to) ≡ true
number_received cs n c found =
    let is = named_is cs n c found in
    has_from_in n (received_by cs c.to) (subst (λ m. IsIn m (received_by cs c.to)) is.1 (in_map (λ d. d.number) c (filter (λ d. eqb c.to d.to) cs) (in_filter (λ d. eqb c.to d.to) c cs is.0 (eq-eqb c.to c.to refl))))

-- of two links of a node the one ends before the other
links_apart : {p : TabledPlan} {node : ℕ} (links : List Link) (passes : List Pass) → AreLinksOf p node links passes → (i j : ℕ) (l m : Link) → i < j → slice_get links i ≡ Some l → slice_get links j ≡ Some m → l.end ≤ m.first
links_apart links passes are i j l m less at_l at_m =
    let within = slice_get_within links j m at_m in
    let next = λ (k : ℕ) (d : Link) (lt : k + 1 < length links). are.in_row k (get_or links k d) (get_or links (k + 1) d) (slice_get-get_or links k d (omega arith)) (slice_get-get_or links (k + 1) d lt) in
    let rise = IsNonDecreasingBy-from_all_adjacent (λ (n : Link). n.first) links (λ k d lt. omega (arith, next k d lt, (are.each k (get_or links k d) (slice_get-get_or links k d (omega arith))).row.filled)) (i + 1) j m (omega (arith, less)) within in
    let own : l.end ≤ (get_or links (i + 1) m).first = are.in_row i l (get_or links (i + 1) m) at_l (slice_get-get_or links (i + 1) m (omega arith)) in
    omega (arith, own, rise, ap (λ (n : Link). n.first) (get_or_from_slice_get links j m m at_m))

-- ---- what is known of the links of all nodes

module _ (p : TabledPlan) (linked : List NodeLinks) (are : AreLinked p linked) (many : length linked ≡ length p.table) where
  -- the node whose links these are
  links_there : (i : ℕ) (s : NodeLinks) → slice_get linked i ≡ Some s → (from : ℕ) × (slice_get p.table i ≡ Some from) × AreLinksOf p from s.links s.passes
  links_there i s at =
      elim ((slice_get_cases p.table i).1) [
        | inl w ↦ (w.0, w.2, are i w.0 s at w.2)
        | inr past ↦ absurd (omega (arith, past.0, slice_get_within linked i s at))
      ]

  -- the links to a node lie over the passes of their senders
  pub lie_there : (to : ℕ) (incoming : List Incoming) → AreIncoming linked to incoming → LieThere linked incoming
  lie_there to incoming are_in k e at = let w = are_in.each k e at in let h = w.0 in (h.node, h.link, h.at, h.there, w.1, ((links_there e.sender h.node h.at).2.each e.place h.link h.there).row)

  -- each link leads to a node of the table
  pub have_receivers : HaveReceivers linked
  have_receivers i j to h =
      let link = (links_there i h.node h.at).2.each j h.link h.there in
      omega (arith, slice_get_within p.table h.link.receiver link.to link.receiver, h.receiver)

-- ---- what a name stands for

-- the passes of a name
pub passes_are : (linked : List NodeLinks) (e : Incoming) (s : NodeLinks) (l : Link) → slice_get linked e.sender ≡ Some s → slice_get s.links e.place ≡ Some l → passes_named linked e ≡ passes_over s.passes l
passes_are linked e s l at there = rw (at, there)

-- the numbers of all passes
abbrev all_numbers : List NodeLinks → List Incoming → List ℕ
all_numbers linked es = flat_map (λ e. numbers_of (passes_named linked e)) es

module _ (p : TabledPlan) (linked : List NodeLinks) (are : AreLinked p linked) (many : length linked ≡ length p.table) (tabled : IsTabled p) (to node : ℕ) (at : slice_get p.table to ≡ Some node) where
  is_to : (e : Incoming) → HasLink linked e.sender e.place to → IsLinkTo p node (record { sender = e.sender; passes = passes_named linked e })
  is_to e h =
      let w = links_there p linked are many e.sender h.node h.at in
      let is = w.2.each e.place h.link h.there in
      let to_node : is.to ≡ node = same_Some is.to node (sym is.receiver ∙ ap (slice_get p.table) h.receiver ∙ at) in
      subst (λ (ps : List Pass). IsLinkTo p node (record { sender = e.sender; passes = ps })) (sym (passes_are linked e h.node h.link h.at h.there))
      (record { from = w.0; at = w.1; each = λ k x there. subst (λ n. IsPassOf p w.0 n x) to_node (is.each k x there); kept = is.row.kept; in_rows = is.row.in_rows })

  -- ---- no number stands twice

  -- where the passes of a name have a number
  has_pass : (e : Incoming) (n : ℕ) (h : HasLink linked e.sender e.place to) → has n (numbers_of (passes_named linked e)) ≡ true
      → (k : ℕ) × (x : Pass) × (h.link.first ≤ k) × (k < h.link.end) × (slice_get h.node.passes k ≡ Some x) × (x.number ≡ n) × IsPassOf p (is_to e h).from node x
  has_pass e n h has_n =
      let w = pass_of_number n (passes_named linked e) has_n in
      let a = part_at h.node.passes h.link.first (h.link.end - h.link.first) w.0 w.1 (ap (λ (ps : List Pass). slice_get ps w.0) (sym (passes_are linked e h.node h.link h.at h.there)) ∙ w.2) in
      (h.link.first + w.0, w.1, omega arith, omega (arith, a.0), a.1, w.3, (is_to e h).each w.0 w.1 w.2)

  -- two names whose passes have a number are one name
  one_name : (e f : Incoming) (n : ℕ) (g : HasLink linked e.sender e.place to) (h : HasLink linked f.sender f.place to) → has n (numbers_of (passes_named linked e)) ≡ true → has n (numbers_of (passes_named linked f)) ≡ true → (e.sender ≡ f.sender) × (e.place ≡ f.place)
  one_name e f n g h in_e in_f =
      let a = has_pass e n g in_e in
      let b = has_pass f n h in_f in
      let one : a.6.contact ≡ b.6.contact = same_Some a.6.contact b.6.contact (sym a.6.named ∙ ap (contact_named p.plan) (a.5 ∙ sym b.5) ∙ b.6.named) in
      let from : (is_to e g).from ≡ (is_to f h).from = sym a.6.sender ∙ ap (λ (c : Contact). c.from) one ∙ b.6.sender in
      let senders : e.sender ≡ f.sender = place_one p.table e.sender f.sender (is_to e g).from tabled.once (is_to e g).at ((is_to f h).at ∙ ap Some (sym from)) in
      let nodes : g.node ≡ h.node = same_Some g.node h.node (sym g.at ∙ ap (slice_get linked) senders ∙ h.at) in
      let links = (links_there p linked are many e.sender g.node g.at).2 in
      let there : slice_get g.node.links f.place ≡ Some h.link = ap (λ (s : NodeLinks). slice_get s.links f.place) nodes ∙ h.there in
      let place : a.0 ≡ b.0 = number_once g.node.passes a.0 b.0 a.1 b.1 links.once a.4 (ap (λ (s : NodeLinks). slice_get s.passes b.0) nodes ∙ b.4) (a.5 ∙ sym b.5) in (
        senders,
        elim (cases_order e.place f.place) [
          | inl same ↦ same
          | inr (inl less) ↦ absurd (omega (arith, links_apart g.node.links g.node.passes links e.place f.place g.link h.link less g.there there, place, a.3, b.2))
          | inr (inr over) ↦ absurd (omega (arith, links_apart g.node.links g.node.passes links f.place e.place h.link g.link over there g.there, place, b.3, a.2))
        ],
      )

  -- a number of all is one of some name
  name_of_number : (es : List Incoming) (n : ℕ) → has n (all_numbers linked es) ≡ true → (k : ℕ) × (e : Incoming) × (slice_get es k ≡ Some e) × (has n (numbers_of (passes_named linked e)) ≡ true)
  name_of_number es n h =
      let w = flat_map_in (λ (e : Incoming). numbers_of (passes_named linked e)) n es (in_from_has n (all_numbers linked es) h) in
      let c = Contains-from_in es w.0 w.1 in
      (c.0, w.0, slice_get-get_or es c.0 w.0 c.1 ∙ ap Some c.2, has_from_in n (numbers_of (passes_named linked w.0)) w.2)

  all_differ : (es : List Incoming) → ((k : ℕ) (e : Incoming) → slice_get es k ≡ Some e → HasLink linked e.sender e.place to)
      → ((i k : ℕ) (e f : Incoming) → slice_get es i ≡ Some e → slice_get es k ≡ Some f → e.sender ≡ f.sender → e.place ≡ f.place → i ≡ k) → are_different (all_numbers linked es) ≡ true
  all_differ [] each once = refl
  all_differ (e ∷ es) each once =
      let h = each 0 e refl in
      let own = numbers_of (passes_named linked e) in
      let differ = numbers_part (h.link.end - h.link.first) h.link.first h.node.passes (links_there p linked are many e.sender h.node h.at).2.once in
      let rest = all_differ es (λ k f at_f. each (suc k) f at_f) (λ i k f g at_f at_g s l. omega (arith, once (suc i) (suc k) f g at_f at_g s l)) in
      subst (λ (ns : List ℕ). are_different ns ≡ true) (sym (flat_map-cons (λ (f : Incoming). numbers_of (passes_named linked f)) e es))
      (different_append own (all_numbers linked es) (subst (λ (ps : List Pass). are_different (numbers_of ps) ≡ true) (sym (passes_are linked e h.node h.link h.at h.there)) differ) rest (λ n in_own in_rest.
      let w = name_of_number es n in_rest in
      let one = one_name e w.1 n h (each (suc w.0) w.1 w.2) in_own w.3 in
      omega (arith, once 0 (suc w.0) e w.1 refl w.2 one.0 one.1)))

  pub links_to : (es : List Incoming) → AreIncoming linked to es → AreLinksTo p node (links_named linked es)
  links_to es incoming =
      let link_of : Incoming → SentLink = λ e. record { sender = e.sender; passes = passes_named linked e } in
      let each_has = λ (k : ℕ) (e : Incoming) (at_e : slice_get es k ≡ Some e). (incoming.each k e at_e).0 in
      let differ = all_differ es each_has incoming.once in
      let as_many = simp length-map at (length-flat_map (λ (s : SentLink). numbers_of s.passes) (links_named linked es)) in
      let same = flat_map-map (λ (s : SentLink). numbers_of s.passes) link_of es in
      record {
        each = λ j s at_s.
            let lt = slice_get_within (links_named linked es) j s at_s in
            subst (IsLinkTo p node) (get_or_from_slice_get (links_named linked es) j s s at_s)
            (All-map (IsLinkTo p node) link_of es (λ k d less. is_to (get_or es k d) (each_has k (get_or es k d) (slice_get-get_or es k d less))) j s lt);
        whole = λ n t c named receiver light.
            let none : NodeLinks = record { links = []; passes = [] } in
            let sender_in : has c.from p.table ≡ true = tabled.nodes c.from ∙ (ends_of_found p.plan.contacts n c named).0 in
            let i = unwrap_or (position (nat_eq c.from) p.table) 0 in
            let sender_at : slice_get p.table i ≡ Some c.from = index_of_member p.table c.from (position (nat_eq c.from) p.table) (index_tells p.table c.from) sender_in in
            let s = get_or linked i none in
            let s_at = slice_get-get_or linked i none (omega (arith, many, slice_get_within p.table i c.from sender_at)) in
            let f = (are i c.from s s_at sender_at).whole n t c named refl light in
            let l = f.2 in
            let is = (are i c.from s s_at sender_at).each f.0 l f.4 in
            let there = part_has s.passes l.first l.end f.1 f.3 f.5 f.6 is.row.ends f.7 in
            let pass = is.each (f.1 - l.first) f.3 there in
            let one : pass.contact ≡ c = same_Some pass.contact c (sym pass.named ∙ ap (contact_named p.plan) f.8 ∙ named) in
            let to_is : is.to ≡ node = sym pass.receiver ∙ ap (λ (d : Contact). d.to) one ∙ receiver in
            let index : l.receiver ≡ to = place_one p.table l.receiver to node tabled.once (is.receiver ∙ ap Some to_is) at in
            let found = incoming.whole i f.0 (record { node = s; link = l; at = s_at; there = f.4; receiver = index }) in
            let e = found.1 in
            let passes = passes_are linked e s l (ap (slice_get linked) found.3 ∙ s_at) (ap (slice_get s.links) found.4 ∙ f.4) in
            (found.0, f.1 - l.first, link_of e, f.3, slice_get-map link_of es found.0 ∙ ap (option_map link_of) found.2, ap (λ (ps : List Pass). slice_get ps (f.1 - l.first)) passes ∙ there, f.8);
        once = rw same differ;
        few =
            let low = length-le_from_is_member nat_eq_equiv (all_numbers linked es) (received_by p.plan.contacts node) (distinct_from_different (all_numbers linked es) differ) (λ n there.
            let w = name_of_number es n there in
            let x = (has_pass w.1 n (each_has w.0 w.1 w.2) w.3) in
            subst (λ m. has n (received_by p.plan.contacts m) ≡ true) x.6.receiver (number_received p.plan.contacts n x.6.contact (ap (contact_named p.plan) (sym x.5) ∙ x.6.named))) in
            omega (arith, low, as_many, ap (λ (ns : List ℕ). length ns) same);
      }
