-- Where listings stand in the list of all routes of their request.
use Rattle.std.proofs.Common.{◌≡◌, ℕ, ◌≤◌, inl, inr, Bool, true, false, List, ◌∷◌, length, Ok, Option, None, Some, refl, sym, ap, subst, ◌∙◌, arith, if◌then◌else◌}
use Rattle.std.specs.Prelude.{nat_lt}
use Rattle.sabr_model.specs.plan.Plan.{IsPlan}
use Rattle.sabr_model.specs.routes.Arrival.{RouteRequest}
use Rattle.sabr_model.specs.routes.Listing.{routes}
use Rattle.sabr_plan.specs.Canonical.{digest_of}
use Rattle.sabr_search.specs.questions.Calls.{no_calls}
use Rattle.sabr_frontier.specs.listing.Listing.{state_at}
use Rattle.sabr_frontier.specs.listing.State.{State}
use Rattle.sabr_frontier.specs.session.Session.{Seen, next_page, session_over}
use Rattle.sabr_session.specs.SessionPlaces.{Act, paged, refused, back, no_back, Leaves}
use Rattle.sabr_session.specs.SessionRead.{IsSessionOf}
use Rattle.sabr_session.specs.Verifying.{IsSessionText}
use Rattle.sabr_session.proofs.SessionPlaces.{texts_are_placed}
use Rattle.libcgrlist.specs.Answers.{count_refusal}
use Rattle.libcgrlist.specs.Listings.{AnswersBackOf, AnswersNext, AnswersPage, IfOpen, listing_after}
use Rattle.libcgrlist.specs.Opened.{OpenPlan, listing_of}
use Rattle.libcgrlist.specs.Buffers.{RouteBuffers}
use Rattle.libcgrlist.specs.Standing.{BackActs, Begins, DoesAct, LoadedBegin, NextActs, OpenedBegin}
use Rattle.libcgrlist.specs.declared.buffers.Page.{Page}

some_same : {X : Type 0} (x y : X) → Some x ≡ Some y → x ≡ y
some_same x y e = cc

-- ---- where a listing begins

pub opened_begin : OpenedBegin
opened_begin o n r (inl (ok, is)) =
    subst (λ (m : OpenPlan). IfOpen m.listing (Begins o r 0)) (sym is)
    (record { plan = refl; request = refl; former = refl; placed = record { within = omega arith; state = refl } })
opened_begin o n r (inr (memory, same)) = absurd (omega (arith, memory))

module _ (o n : OpenPlan) (bytes : List ℕ) where
  -- what a loaded listing is
  abbrev IsRead : Seen → Type 0
  IsRead s =
      IsSessionOf o.plan.plan (digest_of o.plan.plan) bytes true (Ok (s.request, s.state))
      × (n ≡ record o { listing = Some (listing_of (session_over o.plan s.request s.state no_calls)) })

  begins_at : IsPlan o.plan.plan → (text : IsSessionText o.plan.plan bytes) → (s : Seen) → n.listing ≡ Some s → IsRead s → Begins o text.request text.place s
  begins_at rules text s is_open (read, after) =
      let is : s ≡ listing_of (session_over o.plan s.request s.state no_calls) = some_same _ _ (sym is_open ∙ ap (λ (m : OpenPlan). m.listing) after) in
      let place = texts_are_placed o.plan.plan bytes (s.request, s.state) rules text read in
      let plan : s.plan ≡ o.plan = ap (λ (t : Seen). t.plan) is in
      let request : s.request ≡ text.request = ap (λ (x : RouteRequest × State). x.0) place in
      record {
        plan = plan;
        request = request;
        former = ap (λ (t : Seen). t.former) is;
        placed = record {
          within = subst (λ (k : ℕ). text.place ≤ k) (sym (λ i. length (routes (plan i).plan (request i)))) text.within;
          state = ap (λ (x : RouteRequest × State). x.1) place ∙ sym (λ i. state_at (plan i).plan (request i) text.place);
        };
      }

  begins_open : IsPlan o.plan.plan → (text : IsSessionText o.plan.plan bytes) → (l : Option Seen) → n.listing ≡ l → IfOpen l IsRead → IfOpen l (Begins o text.request text.place)
  begins_open rules text None is_open read = absurd read
  begins_open rules text (Some s) is_open read = begins_at rules text s is_open read

pub loaded_begin : LoadedBegin
loaded_begin o n bytes rules text loaded = begins_open o n bytes rules text n.listing refl loaded

-- ---- what calls do

module _ (o n : OpenPlan) (s : Seen) (is_open : o.listing ≡ Some s) where
  -- nothing
  stays : n ≡ o → DoesAct s n
  stays is = (refused, subst (λ (l : Option Seen). IfOpen l (Leaves refused s)) (sym (ap (λ (m : OpenPlan). m.listing) is ∙ is_open)) refl)

  -- a page that was given, or that there was no room for
  page_act : (count : ℕ) (b : Bool) → (act : Act) × Leaves act s (if b then s else listing_after s count)
  page_act count true = (refused, refl)
  page_act count false = (paged count (next_page s count).0, (refl, refl, refl, refl, refl))

  next_act : (refusal : Option ℕ) (count status : ℕ) (old new : RouteBuffers) (page : Page) → AnswersPage refusal o s count status old new page n → DoesAct s n
  next_act (Some e) count status old new page (told, same) = stays same
  next_act None count status old new page (inl (memory, same)) = stays same
  next_act None count status old new page (inr (written, after)) =
      let act = page_act count (nat_lt page.written page.routes) in
      (act.0, subst (λ (m : OpenPlan). IfOpen m.listing (Leaves act.0 s)) (sym after) act.1)

  -- the listing before its last page
  is_before : (l : Option Seen) → n.listing ≡ l
      → IfOpen l (λ t. (t.state ∷ t.former ≡ s.former) × (n ≡ record o { listing = Some (record s { state = t.state; former = t.former }) })) → IfOpen l (Leaves back s)
  is_before None there before = absurd before
  is_before (Some t) there (states, after) =
      let is : t ≡ record s { state = t.state; former = t.former } = some_same _ _ (sym there ∙ ap (λ (m : OpenPlan). m.listing) after) in
      (states, ap (λ (x : Seen). x.plan) is, ap (λ (x : Seen). x.request) is)

  back_act : (status : ℕ) → AnswersBackOf (Some s) o status n → DoesAct s n
  back_act status (inl (memory, same)) = stays same
  back_act status (inr (inl (told, none, same))) = (no_back, subst (λ (l : Option Seen). IfOpen l (Leaves no_back s)) (sym (ap (λ (m : OpenPlan). m.listing) same ∙ is_open)) (none, refl))
  back_act status (inr (inr (told, before))) = (back, is_before n.listing refl before)

pub next_acts : NextActs
next_acts o n s count status old new page is_open answers =
    next_act o n s is_open (count_refusal count) count status old new page (subst (λ (l : Option Seen). AnswersNext o l count status old new page n) is_open answers)

pub back_acts : BackActs
back_acts o n s status is_open answers = back_act o n s is_open status (subst (λ (l : Option Seen). AnswersBackOf l o status n) is_open answers)
