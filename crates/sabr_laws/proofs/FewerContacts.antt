-- A plan with some of its contacts has the routes over these alone.
use Rattle.std.proofs.Common.{◌≡◌, ℕ, Bool, true, false, cond, ◌&&◌, eqb, List, [], ◌∷◌, map, refl, sym, ap, subst, ◌∙◌, ◌||◌, not, inl, inr}
use Rattle.std.specs.List.{filter, find, list_all, cons_option}
use Rattle.std.specs.declared.option.Option.TheVariants.{Some, None}
use Rattle.std.proofs.lemmas.Bool.{and_parts, and_from, eqb-true}
use Rattle.sabr_model.specs.declared.contact.Contact.{Contact}
use Rattle.sabr_model.specs.plan.Plan.{ContactPlan, contact_named, rises_above, has, opens}
use Rattle.sabr_model.specs.routes.Arrival.{RouteRequest}
use Rattle.sabr_model.specs.routes.Route.{chain_end, contacts_of}
use Rattle.sabr_model.proofs.ListLemmas.Begins.{first_hop}
use Rattle.sabr_model.proofs.PlanLemmas.Deletions.{IsPlan-fewer_contacts, found_by_number, found_passes, without_opening}
use Rattle.sabr_laws.specs.Fewer.{with_only, FewerContactsTakeTheirRoutes, LeavesOf, LostContactsTakeTheirRoutes}
use Rattle.sabr_laws.proofs.Alike.{AgreeOn, agree_back, route_alike, delivery_alike}
use Rattle.sabr_laws.proofs.SameListing.{AreLeftOf, leaves, listed_route}
use Rattle.std.specs.Option.{option_map}
use Rattle.sabr_model.specs.plan.Adding.{number_of_opening}
use Rattle.sabr_model.specs.plan.Table.{without_number}
use Rattle.sabr_model.specs.routes.Listing.{routes}
use Rattle.sabr_model.proofs.ListLemmas.Has.{eqb_flip}
use Rattle.sabr_model.proofs.ListLemmas.Members.{IsIn}

-- what is found among elements that pass a test
find_among : {X : Type 0} (is stays : X → Bool) (xs : List X) → find is (filter stays xs) ≡ find (λ x. stays x && is x) xs
find_among is stays [] = refl
find_among is stays (x ∷ xs) =
    elim (stays x) as (λ b. find is (cond b (x ∷ filter stays xs) (filter stays xs)) ≡ cond (b && is x) (Some x) (find (λ y. stays y && is y) xs)) [
      | true ↦ ap (λ o. cond (is x) (Some x) o) (find_among is stays xs)
      | false ↦ find_among is stays xs
    ]

-- an element that is found, and passes, is found among those that pass
found_among : {X : Type 0} (is stays : X → Bool) (xs : List X) (x : X) → find is xs ≡ Some x → stays x ≡ true → find (λ y. stays y && is y) xs ≡ Some x
found_among is stays [] x found passes = absurd cc
found_among is stays (y ∷ ys) x found passes =
    elim (is y) as (λ b. is y ≡ b → cond b (Some y) (find is ys) ≡ Some x → cond (stays y && b) (Some y) (find (λ z. stays z && is z) ys) ≡ Some x) [
      | true ↦ λ here e. let same : y ≡ x = cc in rw (same, passes) refl
      | false ↦ λ here e. let off : (stays y && false) ≡ false = off_or (stays y) in rw off (found_among is stays ys x e passes)
    ] refl found
  where
    off_or : (b : Bool) → (b && false) ≡ false
    off_or true = refl
    off_or false = refl

module _ (p : ContactPlan) (stays : Contact → Bool) (rises : rises_above 0 (map (λ (c : Contact). c.number) p.contacts) ≡ true) where
  -- the contact of a number in the smaller plan is that in the plan, and stays
  named_before : (n : ℕ) (c : Contact) → contact_named (with_only stays p) n ≡ Some c → (contact_named p n ≡ Some c) × (stays c ≡ true)
  named_before n c named =
      let is = λ (d : Contact). stays d && eqb d.number n in
      let found : find is p.contacts ≡ Some c = sym (find_among (λ d. eqb d.number n) stays p.contacts) ∙ named in
      let parts = and_parts (stays c) (eqb c.number n) (found_passes is p.contacts c found) in
      (subst (λ k. contact_named p k ≡ Some c) (eqb-true c.number n parts.1) (found_by_number 0 is p.contacts c rises found), parts.0)

  named_still : (n : ℕ) (c : Contact) → contact_named p n ≡ Some c → stays c ≡ true → contact_named (with_only stays p) n ≡ Some c
  named_still n c named passes = find_among (λ d. eqb d.number n) stays p.contacts ∙ found_among (λ d. eqb d.number n) stays p.contacts c named passes

  -- the contacts of a chain of the smaller plan are the same in the plan, and stay
  chain_stays : (a : ℕ) (s : List ℕ) (b : ℕ) → chain_end (with_only stays p) a s ≡ Some b → AgreeOn p (with_only stays p) s × (list_all stays (contacts_of p s) ≡ true)
  chain_stays a [] b chained = (tt, refl)
  chain_stays a (n ∷ s) b chained =
      let hop = first_hop (with_only stays p) a n s b chained in
      let was = named_before n hop.contact hop.named in
      let rest = chain_stays hop.contact.to s b hop.rest in (
        (was.0 ∙ sym hop.named, rest.0),
        ap (λ o. list_all stays (cons_option o (contacts_of p s))) was.0 ∙ and_from (stays hop.contact) (list_all stays (contacts_of p s)) was.1 rest.1,
      )

  -- if the contacts of a chain stay, both plans agree on them
  agree_if_all_stay : (a : ℕ) (s : List ℕ) (b : ℕ) → chain_end p a s ≡ Some b → list_all stays (contacts_of p s) ≡ true → AgreeOn p (with_only stays p) s
  agree_if_all_stay a [] b chained all = tt
  agree_if_all_stay a (n ∷ s) b chained all =
      let hop = first_hop p a n s b chained in
      let parts = and_parts (stays hop.contact) (list_all stays (contacts_of p s)) (sym (ap (λ o. list_all stays (cons_option o (contacts_of p s))) hop.named) ∙ all) in
      (hop.named ∙ sym (named_still n hop.contact hop.named parts.0), agree_if_all_stay hop.contact.to s b hop.rest parts.1)

  left_over : (r : RouteRequest) → AreLeftOf p r (with_only stays p) r (λ s. list_all stays (contacts_of p s))
  left_over r =
      let q = with_only stays p in
      record {
        were = λ s route. route_alike q p r s refl (agree_back p q s (chain_stays r.source s r.destination route.reaches).0) route;
        pass = λ s route. (chain_stays r.source s r.destination route.reaches).1;
        stay = λ s route all. route_alike p q r s refl (agree_if_all_stay r.source s r.destination route.reaches all) route;
        deliver = λ s route. sym (delivery_alike p q r r refl refl s refl (chain_stays r.source s r.destination route.reaches).0);
      }

pub fewer_contacts_take_their_routes : FewerContactsTakeTheirRoutes
fewer_contacts_take_their_routes p r stays plan =
    leaves p r (with_only stays p) r (λ s. list_all stays (contacts_of p s)) plan (IsPlan-fewer_contacts p stays plan) (left_over p stays plan.numbers_rise r)

-- A plan without a contact has the routes that don't have its number.
-- tests that agree on the elements of a list leave the same of it
filter_alike : {X : Type 0} (test other : X → Bool) (xs : List X) → ((x : X) → IsIn x xs → test x ≡ other x) → filter test xs ≡ filter other xs
filter_alike test other [] alike = refl
filter_alike test other (x ∷ xs) alike =
    ap (λ b. cond b (x ∷ filter test xs) (filter test xs)) (alike x (inl refl))
    ∙ ap (λ ys. cond (other x) (x ∷ ys) ys) (filter_alike test other xs (λ y there. alike y (inr there)))

neither : (a b : Bool) → (not a && not b) ≡ not (a || b)
neither true b = refl
neither false b = refl

-- the contacts of a chain are none of a number if the number isn't in it
none_numbered : (p : ContactPlan) (n a : ℕ) (s : List ℕ) (b : ℕ) → chain_end p a s ≡ Some b → list_all (λ c. not (eqb c.number n)) (contacts_of p s) ≡ not (has n s)
none_numbered p n a [] b chained = refl
none_numbered p n a (m ∷ s) b chained =
    let hop = first_hop p a m s b chained in
    let number : hop.contact.number ≡ m = eqb-true hop.contact.number m (found_passes (λ (c : Contact). eqb c.number m) p.contacts hop.contact hop.named) in
    ap (λ o. list_all (λ (c : Contact). not (eqb c.number n)) (cons_option o (contacts_of p s))) hop.named
    ∙ ap (λ k. not (eqb k n) && list_all (λ (c : Contact). not (eqb c.number n)) (contacts_of p s)) number
    ∙ ap (λ t. not t && list_all (λ (c : Contact). not (eqb c.number n)) (contacts_of p s)) (eqb_flip m n)
    ∙ ap (λ t. not (eqb n m) && t) (none_numbered p n hop.contact.to s b hop.rest)
    ∙ neither (eqb n m) (has n s)

-- the contact of a number that was found
numbered : (p : ContactPlan) (from to start n : ℕ) → number_of_opening p from to start ≡ Some n → (c : Contact) × (find (opens from to start) p.contacts ≡ Some c) × (c.number ≡ n)
numbered p from to start n e =
    elim (find (opens from to start) p.contacts) as (λ o. find (opens from to start) p.contacts ≡ o → option_map (λ c. c.number) o ≡ Some n → (c : Contact) × (find (opens from to start) p.contacts ≡ Some c) × (c.number ≡ n)) [
      | None ↦ λ found is. absurd cc
      | Some c ↦ λ found is. (c, found, let same : c.number ≡ n = cc in same)
    ] refl e

pub lost_contacts_take_their_routes : LostContactsTakeTheirRoutes
lost_contacts_take_their_routes p r from to start n plan named =
    let c = numbered p from to start n named in
    let without : filter (λ d. not (opens from to start d)) p.contacts ≡ without_number n p.contacts =
    without_opening p from to start c.0 plan c.1 ∙ ap (λ k. without_number k p.contacts) c.2 in
    let stays = λ (d : Contact). not (eqb d.number n) in
    let left : LeavesOf p r (with_only stays p) r (λ s. not (has n s)) =
    let all = fewer_contacts_take_their_routes p r stays plan in
    record {
      listing =
          all.listing
          ∙ filter_alike (λ s. list_all stays (contacts_of p s)) (λ s. not (has n s)) (routes p r) (λ s there. none_numbered p n r.source s r.destination (listed_route p r plan s there).reaches);
      deliveries = all.deliveries;
      never_sooner = all.never_sooner;
    } in
    subst (λ cs. LeavesOf p r (record { contacts = cs; ranges = p.ranges; largest = p.largest }) r (λ s. not (has n s))) (sym without) left
