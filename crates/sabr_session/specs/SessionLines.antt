-- What each line of a session text says, without its LF.
use Rattle.std.specs.Prelude.{ℕ, ◌==◌, ◌&&◌, ◌||◌, nat_le, Bool, List, [], ◌∷◌, length, codes, take, drop, option_map, option_and_then, if◌then◌else◌}
use Rattle.std.specs.List.{list_all}
use Rattle.std.specs.Str.{bytes_eq}
use Rattle.std.specs.declared.option.Option.{Option}
use Rattle.std.specs.declared.option.Option.TheVariants.{Some, None}
use Rattle.sabr_model.specs.routes.Asking.{most_hops}
use Rattle.sabr_plan.specs.Times.{time_of}
use Rattle.sabr_frontier.specs.listing.State.{PartState}
use Rattle.sabr_session.specs.SessionWords.{words_of, contacts_of, nodes_of, is_slash, before_slash, after_slash, most_number}
use Rattle.sabr_plan.specs.Numbers.{number_within}
use Rattle.sabr_session.specs.declared.reading.first_lines.Version.{Version}
use Rattle.sabr_session.specs.declared.reading.first_lines.Version.TheVariants.{One, Two}
use Rattle.sabr_model.specs.declared.request_values.RequestValues.{RequestValues}

-- the text after the label, if the text begins with it
unfoldable pub after_label : List ℕ → List ℕ → Option (List ℕ)
after_label label text = if bytes_eq (take (length label) text) label then Some (drop (length label) text) else None

-- `cgr-session 1` or `cgr-session 2`: the version
abbrev pub header_of : List ℕ → Option Version
header_of line =
    if bytes_eq line (codes "cgr-session 2") then Some Two
    else if bytes_eq line (codes "cgr-session 1") then Some One
    else None

-- `0` to `9` or `a` to `f`
abbrev pub is_digest_digit : ℕ → Bool
is_digest_digit b = (nat_le 48 b && nat_le b 57) || (nat_le 97 b && nat_le b 102)

-- 64 digits of `0` to `9` and `a` to `f`
abbrev pub is_digest : List ℕ → Bool
is_digest text = (length text == 64) && list_all is_digest_digit text

-- `plan H`: H
unfoldable pub digest_named : List ℕ → Option (List ℕ)
digest_named line = option_and_then (λ text. if is_digest text then Some text else None) (after_label (codes "plan ") line)

-- the values of these words, if each has one, with the most hops and no node to avoid
abbrev pub four_of : List ℕ → List ℕ → List ℕ → List ℕ → Option RequestValues
four_of from to time margin =
    option_and_then (λ f. option_and_then (λ t. option_and_then (λ s. option_map (λ m.
    record { from = f; to = t; at = s; margin_ppm = m; max_hops = most_hops; avoid = [] })
    (number_within 0 most_number margin)) (time_of time)) (number_within 0 18446744073709551615 to)) (number_within 0 18446744073709551615 from)

-- `FROM TO AT PPM`
abbrev pub unlimited_of : List (List ℕ) → Option RequestValues
unlimited_of (from ∷ to ∷ time ∷ margin ∷ []) = four_of from to time margin
unlimited_of _ = None

-- `FROM TO AT PPM HOPS / NODES`
abbrev pub limited_of : List (List ℕ) → Option RequestValues
limited_of (from ∷ to ∷ time ∷ margin ∷ hops ∷ slash ∷ nodes) =
    if is_slash slash then
    option_and_then (λ ns. option_and_then (λ h. option_map (λ (v : RequestValues). record v { max_hops = h; avoid = ns }) (four_of from to time margin))
    (number_within 0 most_number hops)) (nodes_of nodes)
    else None
limited_of _ = None

-- the words of a request, in each version; without limits there are the most hops and no node to avoid
abbrev pub values_of : Version → List (List ℕ) → Option RequestValues
values_of One words = unlimited_of words
values_of Two words = limited_of words

-- `request` and these words
unfoldable pub request_of : Version → List ℕ → Option RequestValues
request_of version line = option_and_then (λ text. values_of version (words_of text)) (after_label (codes "request ") line)

-- `emitted N`
unfoldable pub emitted_of : List ℕ → Option ℕ
emitted_of line = option_and_then (number_within 0 340282366920938463463374607431768211455) (after_label (codes "emitted ") line)

-- `last LIST`
unfoldable pub last_listed : List ℕ → Option (List ℕ)
last_listed line = option_and_then (λ text. contacts_of (words_of text)) (after_label (codes "last ") line)

-- `parts M`
unfoldable pub count_of : List ℕ → Option ℕ
count_of line = option_and_then (number_within 0 18446744073709551615) (after_label (codes "parts ") line)

-- what the third list of a part carries: `-` is no route
abbrev pub carried_of : List ℕ → Option (List ℕ)
carried_of [] = None
carried_of (n ∷ ns) = Some (n ∷ ns)

-- `LIST / LIST / LIST`; the third is empty if no route is carried
unfoldable pub lists_of : List (List ℕ) → Option PartState
lists_of words =
    let others = after_slash words in
    option_and_then (λ p. option_and_then (λ x. option_map (λ r.
    record { prefix = p; excluded = x; carried = carried_of r })
    (contacts_of (after_slash others))) (contacts_of (before_slash others))) (contacts_of (before_slash words))

-- `part LIST / LIST / LIST`
unfoldable pub part_of : List ℕ → Option PartState
part_of line = option_and_then (λ text. lists_of (words_of text)) (after_label (codes "part ") line)

-- `end`
abbrev pub is_end : List ℕ → Bool
is_end line = bytes_eq line (codes "end")
