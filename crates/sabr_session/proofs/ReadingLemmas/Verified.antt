-- The texts of places are those that are read as a state of their place.
use Rattle.std.proofs.Common.{◌≡◌, ℕ, ◌+◌, arith, Bool, true, false, ◌⊎◌, inl, inr, ◌↔◌, List, ◌++◌, refl, sym, subst, ap, ◌∙◌, Result, Ok, Err}
use Rattle.sabr_model.specs.Devices.{Input}
use Rattle.sabr_model.specs.plan.Plan.{ContactPlan, TabledPlan, IsPlan}
use Rattle.sabr_model.specs.routes.Arrival.{RouteRequest}
use Rattle.sabr_model.specs.routes.Asking.{IsRequest}
use Rattle.sabr_plan.specs.Canonical.{digest_of}
use Rattle.sabr_frontier.specs.listing.State.{State}
use Rattle.sabr_frontier.specs.listing.Listing.{IsState, state_at}
use Rattle.sabr_frontier.specs.session.Session.{Seen}
use Rattle.sabr_frontier.proofs.ListingLemmas.Lawful.{emitted_at, place_within, state_at_formed}
use Rattle.sabr_session.specs.SessionText.{HasText}
use Rattle.sabr_session.specs.SessionRead.{Said, said_of, state_of, ComesTo, IsSessionOf}
use Rattle.sabr_session.specs.SessionGiven.{ReadsSession, EndsText, BreaksText, RefusesText}
use Rattle.sabr_session.specs.Verifying.{IsSessionText, EndsVerified, BreaksVerified, RefusesVerified, VerifiesText}
use Rattle.sabr_session.proofs.ReadingLemmas.SessionGivenSoFar.{read_failed}
use Rattle.sabr_session.specs.declared.session_fault.SessionFault.{SessionFault}
use Rattle.sabr_session.specs.declared.session_fault.SessionFault.TheVariants.{Read, NoMemory}
use Rattle.sabr_session.proofs.TextLemmas.TextsRead.{is_read_back}
use Rattle.sabr_session.proofs.TextLemmas.TextsTold.{IsTextOf, text_told}

module _ (p : ContactPlan) (good : IsPlan p) where
  -- what the lines say of a text that is read
  record IsRead (bytes : List ℕ) (r : RouteRequest) (s : State) : Type 0 where
    pub said : Said
    pub are : said_of p (digest_of p) bytes true ≡ Ok said
    pub request : said.request ≡ r
    pub state : state_of said ≡ s
    pub formed : IsState p said.request (state_of said)

  is_read : (bytes : List ℕ) (r : RouteRequest) (s : State) → IsSessionOf p (digest_of p) bytes true (Ok (r, s)) → IsRead bytes r s
  is_read bytes r s h = by_said (said_of p (digest_of p) bytes true) refl h
    where
      by_said : (o : Result Said SessionFault) → said_of p (digest_of p) bytes true ≡ o → ComesTo p o (Ok (r, s)) → IsRead bytes r s
      by_said (Err f) is h = absurd cc
      by_said (Ok t) is h = record {
        said = t;
        are = is;
        request = sym (ap (λ (x : RouteRequest × State). x.0) h.0);
        state = sym (ap (λ (x : RouteRequest × State). x.1) h.0);
        formed = h.1;
      }

  -- a text of an accepted request and a well-formed state is read as these
  read_back : (bytes : List ℕ) (r : RouteRequest) (s : State) → IsRequest r → IsState p r s → HasText s → IsTextOf p (digest_of p) bytes r s → IsRead bytes r s
  read_back bytes r s asked is there text =
      let back = is_read_back p good r s (record { accepted = asked; formed = is; there = there }) in
      let reads : List ℕ → Type 0 = λ b. IsSessionOf p (digest_of p) b true (Ok (r, s)) in
      is_read bytes r s (elim text [ inl e ↦ subst reads (sym e) back.text | inr e ↦ subst reads (sym e.1) (back.old e.0) ])

  -- what is read as the state of its place is the text of it
  text_of_place : (bytes : List ℕ) (r : RouteRequest) (s : State) → IsSessionOf p (digest_of p) bytes true (Ok (r, s)) → IsRequest r → s ≡ state_at p r s.emitted → IsSessionText p bytes
  text_of_place bytes r s h asked e =
      let is = is_read bytes r s h in
      let told = text_told p (digest_of p) bytes is.said is.are in
      let text : IsTextOf p (digest_of p) bytes r s = subst (λ (u : State). IsTextOf p (digest_of p) bytes r u) is.state (subst (λ (q : RouteRequest). IsTextOf p (digest_of p) bytes q (state_of is.said)) is.request told.1) in
      record {
        request = r;
        place = s.emitted;
        accepted = asked;
        within = place_within p r s e;
        there = subst HasText (is.state ∙ e) told.0;
        spelled = subst (λ (u : State). IsTextOf p (digest_of p) bytes r u) e text;
      }

  -- the text of a place is read as the state of it
  place_read : (bytes : List ℕ) (x : IsSessionText p bytes) → IsRead bytes x.request (state_at p x.request x.place)
  place_read bytes x = read_back bytes x.request (state_at p x.request x.place) x.accepted (state_at_formed p x.request good x.place x.within) x.there x.spelled

  place_of_text : (bytes : List ℕ) (r : RouteRequest) (s : State) → IsSessionOf p (digest_of p) bytes true (Ok (r, s)) → IsSessionText p bytes → s ≡ state_at p r s.emitted
  place_of_text bytes r s h x =
      let is = is_read bytes r s h in
      let back = place_read bytes x in
      let same : is.said ≡ back.said = (let a = is.are in let b = back.are in cc) in
      let request : r ≡ x.request = sym is.request ∙ ap (λ (t : Said). t.request) same ∙ back.request in
      let state : s ≡ state_at p x.request x.place = sym is.state ∙ ap state_of same ∙ back.state in
      let count : s.emitted ≡ x.place = ap (λ (t : State). t.emitted) state ∙ emitted_at p x.request x.place x.within in
      state ∙ ap (λ (q : RouteRequest). state_at p q x.place) (sym request) ∙ ap (state_at p r) (sym count)

  -- it isn't refused
  place_accepted : (bytes : List ℕ) (f : SessionFault) → IsSessionText p bytes → ComesTo p (said_of p (digest_of p) bytes true) (Err f) → ⊥
  place_accepted bytes f x h =
      let back = place_read bytes x in
      refused back.said back.formed (subst (λ (o : Result Said SessionFault). ComesTo p o (Err f)) back.are h)
    where
      refused : (t : Said) → IsState p t.request (state_of t) → ComesTo p (Ok t) (Err f) → ⊥
      refused t formed (inl a) = a.1 formed.closed
      refused t formed (inr b) = b.2 formed

module _ (plan : TabledPlan) (good : IsPlan plan.plan) (old new : Input) where
  -- a session was read, and certified
  pub session_verified : (s : Seen) → ReadsSession plan old (Ok s) new → IsRequest s.request → (said_yes : Bool) → (said_yes ≡ true ↔ s.state ≡ state_at s.plan.plan s.request s.state.emitted) → VerifiesText plan.plan old (Ok said_yes) new
  session_verified s h asked said_yes placed = record { given = h.given; gives = h.gives; told = by_end h.told }
    where
      by_end : EndsText plan old h.given (Ok s) new ⊎ (BreaksText plan old h.given (Ok s) new ⊎ RefusesText plan old h.given (Ok s) new)
          → EndsVerified plan.plan old h.given (Ok said_yes) new ⊎ (BreaksVerified plan.plan old h.given (Ok said_yes) new ⊎ RefusesVerified plan.plan old h.given (Ok said_yes) new)
      by_end (inr (inl bad)) = absurd bad
      by_end (inr (inr bad)) = absurd bad
      by_end (inl e) =
          let same : s.plan ≡ plan = ap (λ (t : Seen). t.plan) e.2.0 in
          let there = λ (t : said_yes ≡ true). placed.0 t ∙ ap (λ (q : TabledPlan). state_at q.plan s.request s.state.emitted) same in
          inl (
            e.0,
            e.1,
            (
              λ t. text_of_place plan.plan good h.given s.request s.state e.2.1 asked (there t),
              λ x. placed.1 (place_of_text plan.plan good h.given s.request s.state e.2.1 x ∙ ap (λ (q : TabledPlan). state_at q.plan s.request s.state.emitted) (sym same)),
            ),
          )

  -- reading was refused
  pub fault_verified : (f : SessionFault) → ReadsSession plan old (Err f) new → (f ≡ Read → ⊥) → (f ≡ NoMemory → ⊥) → VerifiesText plan.plan old (Ok false) new
  fault_verified f h other known = record { given = h.given; gives = h.gives; told = by_end h.told }
    where
      by_end : EndsText plan old h.given (Err f) new ⊎ (BreaksText plan old h.given (Err f) new ⊎ RefusesText plan old h.given (Err f) new)
          → EndsVerified plan.plan old h.given (Ok false) new ⊎ (BreaksVerified plan.plan old h.given (Ok false) new ⊎ RefusesVerified plan.plan old h.given (Ok false) new)
      by_end (inl e) = elim e.2 [
        | inl memory ↦ absurd (known memory)
        | inr told ↦ inl (e.0, e.1, ((λ t. absurd cc), (λ x. absurd (place_accepted plan.plan good h.given f x told))))
      ]
      by_end (inr (inl e)) = absurd (other e.1)
      by_end (inr (inr e)) = elim e.1 [
        | inl memory ↦ absurd (known memory)
        | inr told ↦ inr (inr (e.0, refl, record { fault = f; other = told.0; told = told.1 }, (λ more x. place_accepted plan.plan good (h.given ++ more) f x (subst (λ (o : Result Said SessionFault). ComesTo plan.plan o (Err f)) (sym (told.1 more true)) refl))))
      ]

  -- the reader failed
  pub break_verified : (f : SessionFault) → ReadsSession plan old (Err f) new → f ≡ Read → VerifiesText plan.plan old (Err Read) new
  break_verified f h is = record { given = h.given; gives = h.gives; told = by_end h.told }
    where
      by_end : EndsText plan old h.given (Err f) new ⊎ (BreaksText plan old h.given (Err f) new ⊎ RefusesText plan old h.given (Err f) new)
          → EndsVerified plan.plan old h.given (Err Read) new ⊎ (BreaksVerified plan.plan old h.given (Err Read) new ⊎ RefusesVerified plan.plan old h.given (Err Read) new)
      by_end (inl e) =
          let failed : new.failures ≡ old.failures + 1 = read_failed plan old (Err f) new h is in
          let fine : new.failures ≡ old.failures = e.1 in
          absurd (omega (arith, failed, fine))
      by_end (inr (inl e)) = inr (inl (e.0, refl, e.2 ∙ ap Err is))
      by_end (inr (inr e)) = elim e.1 [
        | inl memory ↦ absurd cc
        | inr told ↦ absurd (told.0 is)
      ]
