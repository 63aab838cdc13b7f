-- What a line says, by its number, and how it is spelled.
use Rattle.std.proofs.Common.{◌≡◌, ℕ, ◌≤◌, List, arith, refl, sym, ap, ◌∙◌, Option, Some, None, Result, Bool, true, false, cond, ◌||◌, [], ◌∷◌, ◌++◌, length, take, drop, subst, append_assoc, decimal, codes, Ok, Err, is_some, unwrap_or}
use Rattle.std.specs.Option.{ok_or, option_map, option_and_then}
use Rattle.sabr_model.specs.plan.Plan.{ContactPlan}
use Rattle.sabr_plan.specs.Steps.{and_then, given_as}
use Rattle.sabr_session.specs.SessionLines.{header_of, digest_named, emitted_of, last_listed, count_of, after_label, is_digest, four_of, unlimited_of, limited_of, values_of, request_of, carried_of, lists_of, part_of, is_end}
use Rattle.sabr_session.specs.SessionRead.{Said, misspelled, same_plan, spelled_at, line_said, other_said, request_said, asked, digest_said}
use Rattle.sabr_session.specs.declared.session_fault.SessionFault.{SessionFault}
use Rattle.sabr_session.specs.declared.reading.first_lines.Version.{Version}
use Rattle.sabr_session.proofs.WordLemmas.SpelledWords.{other_number, joined, words-joined, number_told, list_told, list_has_word, slash_joined}
use Rattle.std.proofs.lemmas.Option.{cond_some}
use Rattle.std.specs.Str.{bytes_eq}
use Rattle.std.proofs.lemmas.List.{take-append-drop}
use Rattle.std.proofs.lemmas.Slice.Eq.{bytes_eq-Decides}
use Rattle.hex.specs.Hex.{encode_lower}
use Rattle.sabr_model.specs.routes.Arrival.{RouteRequest}
use Rattle.sabr_model.specs.routes.Asking.{most_hops, request_refusal, limit_refusal, unlimited, with_limits}
use Rattle.sabr_plan.specs.Times.{time_text_of, time_of}
use Rattle.sabr_plan.proofs.Spelling.{time_of_tells}
use Rattle.sabr_frontier.specs.listing.State.{PartState}
use Rattle.sabr_session.specs.SessionText.{list_text, part_line}
use Rattle.sabr_session.specs.SessionWords.{words_of, contacts_of, nodes_of, is_slash, before_slash, after_slash, most_number}
use Rattle.sabr_plan.specs.Numbers.{number_within}
use Rattle.sabr_session.specs.declared.reading.first_lines.Version.TheVariants.{One, Two}
use Rattle.sabr_model.specs.declared.request_values.RequestValues.{RequestValues}
use Rattle.sabr_session.specs.declared.session_fault.SessionFault.TheVariants.{OtherPlan, BadRequest}
use Rattle.sabr_session.proofs.ReadingLemmas.StepsTaken.{and_then_some, map_some, and_then_ok, spelled_at_ok}
use Rattle.sabr_plan.proofs.SpelledNumbers.{number_within-range}

-- what a line was found to say, and the result that was made of it
pub spelled : {A : Type 0} {o x : Option A} {r s : Result A SessionFault} (n : ℕ) → o ≡ x → r ≡ ok_or o (misspelled n) → r ≡ s → spelled_at n x ≡ s
spelled {o = None} n is made was = rw (← is) (sym made ∙ was)
spelled {o = Some y} n is made was = rw (← is) (sym made ∙ was)

-- the first six lines, and those after them
module _ (p : ContactPlan) (h : List ℕ) (n : ℕ) (s : Said) (line : List ℕ) where
  pub line_1 : {r : Result Version SessionFault} → n ≡ 1 → spelled_at 1 (header_of line) ≡ r → line_said p h n s line ≡ given_as (λ v. record s { version = v }) r
  unfolding line_said
  line_1 is found = rw is (ap (given_as (λ v. record s { version = v })) found)

  pub line_2 : {r : Result (List ℕ) SessionFault} → n ≡ 2 → spelled_at 2 (digest_named line) ≡ r → line_said p h n s line ≡ and_then r (same_plan h s)
  unfolding line_said
  line_2 is found = rw is (ap (λ r. and_then r (same_plan h s)) found)

  pub line_3 : n ≡ 3 → line_said p h n s line ≡ request_said s line
  unfolding line_said
  line_3 is = rw is refl

  pub line_4 : {r : Result ℕ SessionFault} → n ≡ 4 → spelled_at 4 (emitted_of line) ≡ r → line_said p h n s line ≡ given_as (λ n. record s { emitted = n }) r
  unfolding line_said
  line_4 is found = rw is (ap (given_as (λ n. record s { emitted = n })) found)

  pub line_5 : {r : Result (List ℕ) SessionFault} → n ≡ 5 → spelled_at 5 (last_listed line) ≡ r → line_said p h n s line ≡ given_as (λ ns. record s { last_route = ns }) r
  unfolding line_said
  line_5 is found = rw is (ap (given_as (λ ns. record s { last_route = ns })) found)

  pub line_6 : {r : Result ℕ SessionFault} → n ≡ 6 → spelled_at 6 (count_of line) ≡ r → line_said p h n s line ≡ given_as (λ n. record s { count = n }) r
  unfolding line_said
  line_6 is found = rw is (ap (given_as (λ n. record s { count = n })) found)

  pub other_line : 7 ≤ n → line_said p h n s line ≡ other_said p n s line
  unfolding line_said
  other_line after =
      rw (
        other_number n 1 (omega arith),
        other_number n 2 (omega arith),
        other_number n 3 (omega arith),
        other_number n 4 (omega arith),
        other_number n 5 (omega arith),
        other_number n 6 (omega arith),
      ) refl

-- ---- lines that are read are the spelling of what they say

-- a line after its label
pub label_told : (label line rest : List ℕ) → after_label label line ≡ Some rest → line ≡ label ++ rest
unfolding after_label
label_told label line rest e =
    let h = cond_some (bytes_eq (take (length label) line) label) (drop (length label) line) rest e in
    let front : take (length label) line ≡ label = (bytes_eq-Decides (take (length label) line) label).0 h.0 in
    sym (take-append-drop (length label) line) ∙ ap (λ (t : List ℕ). t ++ drop (length label) line) front ∙ ap (λ (t : List ℕ). label ++ t) h.1

-- the first line of each version
abbrev pub header_line : Version → List ℕ
header_line One = codes "cgr-session 1"
header_line Two = codes "cgr-session 2"

pub header_told : (line : List ℕ) (v : Version) → header_of line ≡ Some v → line ≡ header_line v
header_told line v e = by_tests (bytes_eq line (codes "cgr-session 2")) refl (bytes_eq line (codes "cgr-session 1")) refl e
  where
    by_tests : (a : Bool) → bytes_eq line (codes "cgr-session 2") ≡ a → (b : Bool) → bytes_eq line (codes "cgr-session 1") ≡ b → cond a (Some Two) (cond b (Some One) None) ≡ Some v → line ≡ header_line v
    by_tests true is b also e = let same : Two ≡ v = cc in (bytes_eq-Decides line (codes "cgr-session 2")).0 is ∙ ap header_line same
    by_tests false is true also e = let same : One ≡ v = cc in (bytes_eq-Decides line (codes "cgr-session 1")).0 also ∙ ap header_line same
    by_tests false is false also e = absurd cc

-- the line of the digest
named_told : (line digits : List ℕ) → digest_named line ≡ Some digits → line ≡ codes "plan " ++ digits
unfolding digest_named
named_told line digits e =
    let h = and_then_some (λ (text : List ℕ). cond (is_digest text) (Some text) None) (after_label (codes "plan ") line) digits e in
    label_told (codes "plan ") line h.0 h.1 ∙ ap (λ (t : List ℕ). codes "plan " ++ t) (cond_some (is_digest h.0) h.0 digits h.2).1

same_plan_told : (h : List ℕ) (s t : Said) (digits : List ℕ) → same_plan h s digits ≡ Ok t → (digits ≡ encode_lower h) × (t ≡ s)
same_plan_told h s t digits e = by_test (bytes_eq digits (encode_lower h)) refl e
  where
    by_test : (b : Bool) → bytes_eq digits (encode_lower h) ≡ b → cond b (Ok s) (Err OtherPlan) ≡ Ok t → (digits ≡ encode_lower h) × (t ≡ s)
    by_test true is e = let same : t ≡ s = cc in ((bytes_eq-Decides digits (encode_lower h)).0 is, same)
    by_test false is e = absurd cc

pub digest_told : (h : List ℕ) (s t : Said) (line : List ℕ) → digest_said h s line ≡ Ok t → (line ≡ codes "plan " ++ encode_lower h) × (t ≡ s)
digest_told h s t line e =
    let k = and_then_ok (same_plan h s) (spelled_at 2 (digest_named line)) t e in
    let named = named_told line k.0 (spelled_at_ok 2 (digest_named line) k.0 k.1) in
    let same = same_plan_told h s t k.0 k.2 in
    (named ∙ ap (λ (d : List ℕ). codes "plan " ++ d) same.0, same.1)

-- the first four words of a request
record FourTold (from to time margin : List ℕ) (v : RequestValues) : Type 0 where
  pub from_is : from ≡ decimal v.from
  pub to_is : to ≡ decimal v.to
  pub time_is : time ≡ time_text_of v.at
  pub margin_is : margin ≡ decimal v.margin_ppm
  pub hops_are : v.max_hops ≡ most_hops
  pub avoid_is : v.avoid ≡ []

four_told : (from to time margin : List ℕ) (v : RequestValues) → four_of from to time margin ≡ Some v → FourTold from to time margin v
four_told from to time margin v e =
    let values : ℕ → ℕ → ℕ → ℕ → RequestValues = λ f t s m. record { from = f; to = t; at = s; margin_ppm = m; max_hops = most_hops; avoid = [] } in
    let f = and_then_some _ (number_within 0 18446744073709551615 from) v e in
    let t = and_then_some _ (number_within 0 18446744073709551615 to) v f.2 in
    let s = and_then_some _ (time_of time) v t.2 in
    let m = map_some (values f.0 t.0 s.0) (number_within 0 most_number margin) v s.2 in
    let told : FourTold from to time margin (values f.0 t.0 s.0 m.0) = record {
      from_is = number_told 0 18446744073709551615 from f.0 f.1;
      to_is = number_told 0 18446744073709551615 to t.0 t.1;
      time_is = (time_of_tells time s.0 s.1).0;
      margin_is = number_told 0 most_number margin m.0 m.1;
      hops_are = refl;
      avoid_is = refl;
    } in
    subst (λ (w : RequestValues). FourTold from to time margin w) m.2 told

-- the values of a request's line, in each version
abbrev pub values_text : Version → RequestValues → List ℕ
values_text One v = decimal v.from ++ 32 ∷ (decimal v.to ++ 32 ∷ (time_text_of v.at ++ 32 ∷ decimal v.margin_ppm))
values_text Two v =
    decimal v.from ++ 32 ∷ (decimal v.to ++ 32 ∷ (time_text_of v.at ++ 32 ∷ (decimal v.margin_ppm ++ 32 ∷ (decimal v.max_hops ++ (codes " / " ++ list_text v.avoid)))))

-- what version 1 doesn't spell
abbrev pub IsOfVersion : Version → RequestValues → Type 0
IsOfVersion One v = (v.max_hops ≡ 20000) × (v.avoid ≡ [])
IsOfVersion Two v = Unit {0}

unlimited_told : (words : List (List ℕ)) (v : RequestValues) → unlimited_of words ≡ Some v → (joined words ≡ values_text One v) × IsOfVersion One v
unlimited_told [] v e = absurd cc
unlimited_told (from ∷ []) v e = absurd cc
unlimited_told (from ∷ to ∷ []) v e = absurd cc
unlimited_told (from ∷ to ∷ time ∷ []) v e = absurd cc
unlimited_told (from ∷ to ∷ time ∷ margin ∷ word ∷ more) v e = absurd cc
unlimited_told (from ∷ to ∷ time ∷ margin ∷ []) v e =
    let h = four_told from to time margin v e in
    (rw (h.from_is, h.to_is, h.time_is, h.margin_is) refl, (h.hops_are, h.avoid_is))

limits_told : (from to time margin hops slash : List ℕ) (nodes : List (List ℕ)) (w : RequestValues) (most : ℕ) (avoid : List ℕ) → FourTold from to time margin w
    → hops ≡ decimal most → slash ≡ codes "/" → joined (slash ∷ nodes) ≡ slash ++ 32 ∷ joined nodes → joined nodes ≡ list_text avoid
    → joined (from ∷ to ∷ time ∷ margin ∷ hops ∷ slash ∷ nodes) ≡ values_text Two (record w { max_hops = most; avoid = avoid })
limits_told from to time margin hops slash nodes w most avoid h limit stroke rest listed = rw (rest, h.from_is, h.to_is, h.time_is, h.margin_is, limit, stroke, listed) refl

limited_told : (words : List (List ℕ)) (v : RequestValues) → limited_of words ≡ Some v → joined words ≡ values_text Two v
limited_told [] v e = absurd cc
limited_told (from ∷ []) v e = absurd cc
limited_told (from ∷ to ∷ []) v e = absurd cc
limited_told (from ∷ to ∷ time ∷ []) v e = absurd cc
limited_told (from ∷ to ∷ time ∷ margin ∷ []) v e = absurd cc
limited_told (from ∷ to ∷ time ∷ margin ∷ hops ∷ []) v e = absurd cc
limited_told (from ∷ to ∷ time ∷ margin ∷ hops ∷ slash ∷ nodes) v e = by_slash (is_slash slash) refl e
  where
    limited : List ℕ → ℕ → Option RequestValues
    limited ns h = option_map (λ (w : RequestValues). record w { max_hops = h; avoid = ns }) (four_of from to time margin)

    found : Option RequestValues
    found = option_and_then (λ (ns : List ℕ). option_and_then (limited ns) (number_within 0 most_number hops)) (nodes_of nodes)

    by_slash : (b : Bool) → is_slash slash ≡ b → cond b found None ≡ Some v → joined (from ∷ to ∷ time ∷ margin ∷ hops ∷ slash ∷ nodes) ≡ values_text Two v
    by_slash false is e = absurd cc
    by_slash true is e =
        let n = and_then_some (λ (ns : List ℕ). option_and_then (limited ns) (number_within 0 most_number hops)) (nodes_of nodes) v e in
        let k = and_then_some (limited n.0) (number_within 0 most_number hops) v n.2 in
        let w = map_some (λ (w : RequestValues). record w { max_hops = k.0; avoid = n.0 }) (four_of from to time margin) v k.2 in
        let h = four_told from to time margin w.0 w.1 in
        let stroke : slash ≡ codes "/" = (bytes_eq-Decides slash (codes "/")).0 is in
        let limit : hops ≡ decimal k.0 = number_told 0 most_number hops k.0 k.1 in
        let listed : joined nodes ≡ list_text n.0 = list_told 16 0 18446744073709551615 nodes n.0 n.1 in
        let some = list_has_word 16 0 18446744073709551615 nodes n.0 n.1 in
        let rest : joined (slash ∷ nodes) ≡ slash ++ 32 ∷ joined nodes = rw some.2 refl in
        limits_told from to time margin hops slash nodes w.0 k.0 n.0 h limit stroke rest listed ∙ ap (values_text Two) w.2

-- the line of the request
pub request_told : (version : Version) (line : List ℕ) (v : RequestValues) → request_of version line ≡ Some v → (line ≡ codes "request " ++ values_text version v) × IsOfVersion version v
unfolding request_of
request_told version line v e =
    let h = and_then_some (λ (text : List ℕ). values_of version (words_of text)) (after_label (codes "request ") line) v e in
    let told = by_version version (words_of h.0) h.2 in
    (label_told (codes "request ") line h.0 h.1 ∙ ap (λ (t : List ℕ). codes "request " ++ t) (sym (words-joined h.0) ∙ told.0), told.1)
  where
    by_version : (version : Version) (words : List (List ℕ)) → values_of version words ≡ Some v → (joined words ≡ values_text version v) × IsOfVersion version v
    by_version One words e = unlimited_told words v e
    by_version Two words e = (limited_told words v e, tt)

-- its values make this request
pub asked_told : (v : RequestValues) (r : RouteRequest) → asked v ≡ Ok r → with_limits (unlimited v.from v.to v.at v.margin_ppm) v.max_hops v.avoid ≡ r
asked_told v r e = by_test (is_some (request_refusal v.from v.to v.at v.margin_ppm) || is_some (limit_refusal (unlimited v.from v.to v.at v.margin_ppm) v.max_hops v.avoid)) e
  where
    made : RouteRequest
    made = with_limits (unlimited v.from v.to v.at v.margin_ppm) v.max_hops v.avoid

    by_test : (b : Bool) → cond b (Err BadRequest) (Ok made) ≡ Ok r → made ≡ r
    by_test true e = absurd cc
    by_test false e = cc

-- the lines of one value
pub emitted_told : (line : List ℕ) (n : ℕ) → emitted_of line ≡ Some n → line ≡ codes "emitted " ++ decimal n
unfolding emitted_of
emitted_told line n e =
    let h = and_then_some (number_within 0 340282366920938463463374607431768211455) (after_label (codes "emitted ") line) n e in
    label_told (codes "emitted ") line h.0 h.1 ∙ ap (λ (t : List ℕ). codes "emitted " ++ t) (number_told 0 340282366920938463463374607431768211455 h.0 n h.2)

pub last_told : (line ns : List ℕ) → last_listed line ≡ Some ns → line ≡ codes "last " ++ list_text ns
unfolding last_listed
last_told line ns e =
    let h = and_then_some (λ (text : List ℕ). contacts_of (words_of text)) (after_label (codes "last ") line) ns e in
    label_told (codes "last ") line h.0 h.1 ∙ ap (λ (t : List ℕ). codes "last " ++ t) (sym (words-joined h.0) ∙ list_told 20000 1 most_number (words_of h.0) ns h.2)

pub count_told : (line : List ℕ) (n : ℕ) → count_of line ≡ Some n → (line ≡ codes "parts " ++ decimal n) × (n ≤ 18446744073709551615)
unfolding count_of
count_told line n e =
    let h = and_then_some (number_within 0 18446744073709551615) (after_label (codes "parts ") line) n e in (
      label_told (codes "parts ") line h.0 h.1 ∙ ap (λ (t : List ℕ). codes "parts " ++ t) (number_told 0 18446744073709551615 h.0 n h.2),
      (number_within-range 0 18446744073709551615 h.0 n h.2).1,
    )

-- the three lists of a part
abbrev lists_text : PartState → List ℕ
lists_text t = list_text t.prefix ++ (codes " / " ++ (list_text t.excluded ++ (codes " / " ++ list_text (unwrap_or t.carried []))))

carried_is : (r : List ℕ) → unwrap_or (carried_of r) [] ≡ r
carried_is [] = refl
carried_is (n ∷ ns) = refl

lists_told : (words : List (List ℕ)) (t : PartState) → lists_of words ≡ Some t → joined words ≡ lists_text t
unfolding lists_of
lists_told words t e =
    let others = after_slash words in
    let part : List ℕ → List ℕ → List ℕ → PartState = λ q x r. record { prefix = q; excluded = x; carried = carried_of r } in
    let q = and_then_some _ (contacts_of (before_slash words)) t e in
    let x = and_then_some _ (contacts_of (before_slash others)) t q.2 in
    let r = map_some (part q.0 x.0) (contacts_of (after_slash others)) t x.2 in
    let last = list_has_word 20000 1 most_number (after_slash others) r.0 r.1 in
    let third : joined (after_slash others) ≡ list_text r.0 = list_told 20000 1 most_number (after_slash others) r.0 r.1 in
    let two : joined others ≡ list_text x.0 ++ (codes " / " ++ list_text r.0) = slash_joined others x.0 (list_text r.0) x.1 last.0 last.1 last.2 third in
    let first = list_has_word 20000 1 most_number (before_slash others) x.0 x.1 in
    let some = starts others first.0 first.1 first.2 in
    let three : joined words ≡ list_text q.0 ++ (codes " / " ++ (list_text x.0 ++ (codes " / " ++ list_text r.0))) = slash_joined words q.0 _ q.1 some.0 some.1 some.2 two in
    let whole : joined words ≡ lists_text (part q.0 x.0 r.0) = three ∙ ap (λ (c : List ℕ). list_text q.0 ++ (codes " / " ++ (list_text x.0 ++ (codes " / " ++ list_text c)))) (sym (carried_is r.0)) in
    subst (λ (u : PartState). joined words ≡ lists_text u) r.2 whole
  where
    starts : (ws : List (List ℕ)) (v : List ℕ) (vs : List (List ℕ)) → before_slash ws ≡ v ∷ vs → (u : List ℕ) × (us : List (List ℕ)) × (ws ≡ u ∷ us)
    starts [] v vs e = absurd cc
    starts (u ∷ us) v vs e = (u, us, refl)

-- the line of a part
pub part_told : (line : List ℕ) (t : PartState) → part_of line ≡ Some t → line ++ 10 ∷ [] ≡ part_line t
unfolding part_of
part_told line t e =
    let h = and_then_some (λ (text : List ℕ). lists_of (words_of text)) (after_label (codes "part ") line) t e in
    let told : line ≡ codes "part " ++ lists_text t = label_told (codes "part ") line h.0 h.1 ∙ ap (λ (u : List ℕ). codes "part " ++ u) (sym (words-joined h.0) ∙ lists_told (words_of h.0) t h.2) in
    ap (λ (u : List ℕ). u ++ 10 ∷ []) told ∙ simp append_assoc

-- the last line
pub end_told : (line : List ℕ) → is_end line ≡ true → line ≡ codes "end"
end_told line e = (bytes_eq-Decides line (codes "end")).0 e
