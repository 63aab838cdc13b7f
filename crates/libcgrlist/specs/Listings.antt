-- What calls over a listing answer.
use Rattle.std.specs.Prelude.{◌≡◌, ℕ, ◌<◌, ◌⊎◌, ◌↔◌, IsTrue, is_some, length, map, nat_lt, Bool, true, false, List, [], ◌∷◌, Result, Ok, Err, Option, None, Some, if◌then◌else◌}
use Rattle.sabr_model.specs.routes.Arrival.{RouteRequest}
use Rattle.sabr_model.specs.routes.Record.{RouteRecord, record_of}
use Rattle.sabr_frontier.specs.declared.session.paused.PausedSession.{PausedSession}
use Rattle.sabr_frontier.specs.listing.Listing.{next_route}
use Rattle.sabr_frontier.specs.session.Paused.{IsPausedOver}
use Rattle.sabr_search.specs.questions.Calls.{no_calls}
use Rattle.sabr_frontier.specs.session.Session.{Seen, former_then, next_page, started}
use Rattle.libcgrlist.specs.Answers.{WritesPage, count_refusal}
use Rattle.libcgrlist.specs.Opened.{OpenPlan, listing_of, listing_over}
use Rattle.libcgrlist.specs.Buffers.{IsPage, RouteBuffers}
use Rattle.libcgrlist.specs.Status.{done, has_listing, no, no_listing, no_memory}
use Rattle.libcgrlist.specs.declared.listing.ListingPlace.{ListingPlace}
use Rattle.libcgrlist.specs.declared.buffers.Page.{Page}

-- the records of the next page of a listing
abbrev pub next_records : Seen → ℕ → List RouteRecord
next_records s count = map (record_of s.plan.plan s.request) (next_page s count).0

-- whether the list goes on after it
abbrev pub goes_on : Seen → ℕ → Bool
goes_on s count = is_some (next_route s.plan.plan s.request (next_page s count).1)

-- the listing after its next page
abbrev pub listing_after : Seen → ℕ → Seen
listing_after s count = record s { state = (next_page s count).1; former = former_then (next_page s count).0 s.state s.former }

-- the listing after its next page was written: it stays where it was if there was no room for all of the page
abbrev pub listing_then : Seen → ℕ → Page → Seen
listing_then s count page = if nat_lt page.written page.routes then s else listing_after s count

-- no listing is open, or else an allocation fails
abbrev pub listing_refusal : Option Seen → ℕ
listing_refusal None = no_listing
listing_refusal (Some s) = no_memory

-- a listing is open, and this holds of it
abbrev pub IfOpen : Option Seen → (Seen → Type 0) → Type 0
IfOpen None P = ⊥
IfOpen (Some s) P = P s

-- the listing is taken out of what is behind the handle, or it stays
abbrev pub TakesUp : {B A : Type 0} → OpenPlan → Result (PausedSession B A) ℕ → OpenPlan → Type 0
TakesUp o (Err e) n = (e ≡ listing_refusal o.listing) × (n ≡ o)
TakesUp o (Ok s) n = IsPausedOver o.plan s × (o.listing ≡ Some (listing_over o.plan s)) × (n ≡ record o { listing = None })

-- what an opening call answers
abbrev pub OpensListing : OpenPlan → Result RouteRequest ℕ → ℕ → OpenPlan → Type 0
OpensListing o (Err s) status n = (status ≡ s) × (n ≡ o)
OpensListing o (Ok r) status n = ((status ≡ done) × (n ≡ record o { listing = Some (listing_of (started o.plan r no_calls)) })) ⊎ ((status ≡ no_memory) × (n ≡ o))

-- a second listing is refused
abbrev pub second_refusal : Option Seen → Option ℕ
second_refusal None = None
second_refusal (Some s) = Some has_listing

-- a page is given of the listing, or none
abbrev pub GivesNext : OpenPlan → ℕ → Result Page ℕ → RouteBuffers → RouteBuffers → OpenPlan → Type 0
GivesNext o count (Err e) old new n = (e ≡ listing_refusal o.listing) × (new ≡ old) × (n ≡ o)
GivesNext o count (Ok page) old new n = IfOpen o.listing (λ s. IsPage (next_records s count) (goes_on s count) old new page × (n ≡ record o { listing = Some (listing_then s count page) }))

-- what a call for the next page answers
abbrev pub AnswersPage : Option ℕ → OpenPlan → Seen → ℕ → ℕ → RouteBuffers → RouteBuffers → Page → OpenPlan → Type 0
AnswersPage (Some e) o s count status old new page n = (status ≡ e) × (n ≡ o)
AnswersPage None o s count status old new page n =
    ((status ≡ no_memory) × (n ≡ o)) ⊎ (WritesPage (next_records s count) (goes_on s count) status old new page × (n ≡ record o { listing = Some (listing_then s count page) }))

abbrev pub AnswersNext : OpenPlan → Option Seen → ℕ → ℕ → RouteBuffers → RouteBuffers → Page → OpenPlan → Type 0
AnswersNext o None count status old new page n = (status ≡ no_listing) × (n ≡ o)
AnswersNext o (Some s) count status old new page n = AnswersPage (count_refusal count) o s count status old new page n

-- the place of a listing
pub record IsPlaceOf (s : Seen) (place : ListingPlace) : Type 0 where
  pub given : place.given ≡ s.state.emitted
  pub more : place.more ≡ is_some (next_route s.plan.plan s.request s.state)
  pub can_back : IsTrue place.can_back ↔ (0 < length s.former)

-- the place of a listing, if one is open
abbrev pub IsPlaceIn : Option Seen → Option ListingPlace → Type 0
IsPlaceIn None found = found ≡ None
IsPlaceIn (Some s) None = ⊥
IsPlaceIn (Some s) (Some place) = IsPlaceOf s place

-- what a call that asks for it answers
abbrev pub AnswersPlace : OpenPlan → Option Seen → ℕ → ListingPlace → OpenPlan → Type 0
AnswersPlace o None status place n = (status ≡ no_listing) × (n ≡ o)
AnswersPlace o (Some s) status place n = (status ≡ done) × IsPlaceOf s place × (n ≡ o)

-- the listing before its last page that gave routes, which goes on from there
abbrev pub IsBefore : Seen → OpenPlan → OpenPlan → Type 0
IsBefore s o n = IfOpen n.listing (λ t. (t.state ∷ t.former ≡ s.former) × (n ≡ record o { listing = Some (record s { state = t.state; former = t.former }) }))

-- a page is taken back, or there was none
abbrev pub GoesBack : OpenPlan → Result Bool ℕ → OpenPlan → Type 0
GoesBack o (Err e) n = (e ≡ listing_refusal o.listing) × (n ≡ o)
GoesBack o (Ok false) n = IfOpen o.listing (λ s. s.former ≡ []) × (n ≡ o)
GoesBack o (Ok true) n = IfOpen o.listing (λ s. IsBefore s o n)

-- what a call for it answers
abbrev pub AnswersBackOf : Option Seen → OpenPlan → ℕ → OpenPlan → Type 0
AnswersBackOf None o status n = (status ≡ no_listing) × (n ≡ o)
AnswersBackOf (Some s) o status n = ((status ≡ no_memory) × (n ≡ o)) ⊎ (((status ≡ no) × (s.former ≡ []) × (n ≡ o)) ⊎ ((status ≡ done) × IsBefore s o n))

abbrev pub AnswersBack : OpenPlan → ℕ → OpenPlan → Type 0
AnswersBack o status n = AnswersBackOf o.listing o status n
