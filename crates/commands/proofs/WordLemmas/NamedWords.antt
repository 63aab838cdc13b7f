-- Words that have no fault and don't ask for help name a command.
use Rattle.std.proofs.Common.{◌≡◌, ℕ, Bool, true, false, not, ◌&&◌, ◌||◌, ◌⊎◌, inl, inr, List, [], ◌∷◌, Option, None, Some, codes, if◌then◌else◌, refl, sym, subst, ◌∙◌, option_map, option_and_then, is_some, fold, IfOk, IsTrue, Result, Ok, Err}
use Rattle.std.specs.List.{find, list_any}
use Rattle.std.specs.Str.{bytes_eq}
use Rattle.std.proofs.lemmas.Slice.Eq.{bytes_eq-Decides}
use Rattle.clap.specs.Walk.{Held, Names, Outcome, Rule, Step, Text, Waiting, Walk, done, waits, plain, refused, idle, option, positional, next, trailing, subcommand, value, Row, after_flag, after_step, answers_to, arg_by_index, long_or_other, plain_word, short_or_plain, subcommand_met, subcommand_or_other, to_positional, walk, walk_from, walked, walked_from, word_met, finished, nothing_held, settled, long_met, arg_by_long, bundle}
use Rattle.clap.specs.Facts.{explicit_source}
use Rattle.clap.specs.Takes.{is_given}
use Rattle.clap.specs.Lexer.{long_of, short_of}
use Rattle.clap.specs.Kinds.{FailsBy, Kinds, check_kinds, or_else}
use Rattle.clap.specs.Faults.{built_fault, check_fault, defaults_fault, entered_fault, fault_of, other_fault, settle_fault, turn_fault, walk_fault, word_fault}
use Rattle.clap.specs.Simple.{App, Shape, built, entered, label_of, names_of, rows_at, subcommand_rows_of}
use Rattle.clap.proofs.OnLiterals.{clap_on_literals}
use Rattle.clap.specs.declared.error.Error.{Error}
use Rattle.clap.specs.declared.parser.matches.ArgMatches.{ArgMatches}
use Rattle.clap.specs.declared.error.kind.ErrorKind.{ErrorKind}
use Rattle.commands.specs.runs.Program.{named_in}
use Rattle.commands.specs.words.CommandLine.{given_by, program_app}
use Rattle.commands.specs.words.Values.{command_named}

-- no kind comes from either of two steps
none_first : (a b : Kinds) → or_else a b ≡ [] → a ≡ []
none_first [] b e = refl
none_first (k ∷ ks) b e = e

none_then : (a b : Kinds) → or_else a b ≡ [] → b ≡ []
none_then [] b e = e
none_then (k ∷ ks) b e = absurd cc

-- the word is not the one for help
abbrev IsNotHelp : Option (Text × List Text) → Type 0
IsNotHelp None = Unit {0}
IsNotHelp (Some p) = bytes_eq p.0 (codes "help") ≡ false

-- a word that is no subcommand's name
abbrev is_met : Step → Bool
is_met (subcommand name) = true
is_met _ = false

plain_never : (c : List Rule) (waiting : Waiting) (word : Text) (h : Held) → is_met (plain_word c waiting word h).1 ≡ false
plain_never c idle word h = refl
plain_never c (option id) word h = refl
plain_never c positional word h = refl

flag_never : (c : List Rule) (waiting : Waiting) (word : Text) (h : Held) (o : Outcome) → is_met (after_flag c waiting word h o).1 ≡ false
flag_never c waiting word h done = refl
flag_never c waiting word h (waits id) = refl
flag_never c waiting word h plain = plain_never c waiting word h
flag_never c waiting word h refused = plain_never c waiting word h

short_never : (c : List Rule) (waiting : Waiting) (word : Text) (o : Option Text) (h : Held) → is_met (short_or_plain c waiting word o h).1 ≡ false
short_never c waiting word (Some flags) h = flag_never c waiting word (bundle c flags h).0 (bundle c flags h).1
short_never c waiting word None h = plain_never c waiting word h

other_never : (c : List Rule) (waiting : Waiting) (word : Text) (o : Option (Text × Option Text)) (h : Held) → is_met (long_or_other c waiting word o h).1 ≡ false
other_never c waiting word (Some p) h = flag_never c waiting word (long_met c (arg_by_long c p.0) p.1 h).0 (long_met c (arg_by_long c p.0) p.1 h).1
other_never c waiting word None h = short_never c waiting word (short_of word) h

either_never : (b : Bool) (x y : Held × Step) → is_met x.1 ≡ false → is_met y.1 ≡ false → is_met (if b then x else y).1 ≡ false
either_never true x y first second = first
either_never false x y first second = second

-- it leaves the walk where it was
stays : (c : List Rule) (word : Text) (w : Walk) (h : Held) (step : Step) → IsNotHelp w.stopped → is_met step ≡ false → IsNotHelp (after_step c word w h step).stopped
stays c word w h (next waiting) fine e = fine
stays c word w h (trailing position) fine e = fine
stays c word w h (subcommand name) fine e = absurd cc
stays c word w h value fine e = at_positional (arg_by_index c w.position)
  where
    at_positional : (a : Option Rule) → IsNotHelp (to_positional c a word w h).stopped
    at_positional None = fine
    at_positional (Some a) = tt

-- a subcommand that is met without a fault is not the one for help
not_help : (is_help disabled : Bool) (k : ErrorKind) (ks : Kinds) → disabled ≡ false → (if is_help && not disabled then k ∷ ks else []) ≡ [] → is_help ≡ false
not_help false disabled k ks off e = refl
not_help true false k ks off e = absurd cc
not_help true true k ks off e = absurd cc

met_fine : (s : Shape) (met : Option Text) (waiting : Waiting) (position : ℕ) (word : Text) (w : Walk) → s.disable_help_subcommand ≡ false → IsNotHelp w.stopped
    → other_fault s met word w.held ≡ []
    → IsNotHelp (after_step s.rules word w (subcommand_or_other s.rules met waiting position word w.held).0 (subcommand_or_other s.rules met waiting position word w.held).1).stopped
met_fine s (Some name) waiting position word w off fine e = not_help _ _ _ _ off e
met_fine s None waiting position word w off fine e =
    let step = subcommand_or_other s.rules None waiting position word w.held in
    stays s.rules word w step.0 step.1 fine (either_never (bytes_eq word (45 ∷ 45 ∷ [])) _ _ refl (other_never s.rules waiting word (long_of word) w.held))

word_fine : (s : Shape) (names : Names) (is_trailing : Bool) (waiting : Waiting) (position : ℕ) (word : Text) (w : Walk) → s.disable_help_subcommand ≡ false → IsNotHelp w.stopped
    → word_fault s names is_trailing waiting word w.held ≡ []
    → IsNotHelp (after_step s.rules word w (word_met s.rules names is_trailing waiting position word w.held).0 (word_met s.rules names is_trailing waiting position word w.held).1).stopped
word_fine s names true waiting position word w off fine e = stays s.rules word w w.held value fine refl
word_fine s names false waiting position word w off fine e = met_fine s (subcommand_met names waiting word) waiting position word w off fine e

turn_word : (stop : Option (Text × List Text)) (a b : Kinds) → (if is_some stop then [] else or_else a b) ≡ [] → stop ≡ None → a ≡ []
turn_word None a b e none = none_first a b e
turn_word (Some p) a b e none = absurd cc

turn_fine : (s : Shape) (names : Names) (stop : Option (Text × List Text)) (w : Walk) (word : Text) → s.disable_help_subcommand ≡ false → IsNotHelp stop → IsNotHelp w.stopped
    → (stop ≡ None → word_fault s names w.is_trailing w.waiting word w.held ≡ []) → IsNotHelp (walked_from s.rules names stop w word).stopped
turn_fine s names (Some p) w word off fine at e = fine
turn_fine s names None w word off fine at e = word_fine s names w.is_trailing w.waiting w.position word w off at (e refl)

-- a walk without a fault never stops at the word for help
walk_fine : (s : Shape) (names : Names) (words : List Text) (w : Walk) → s.disable_help_subcommand ≡ false → IsNotHelp w.stopped → walk_fault s names w words ≡ []
    → IsNotHelp (fold (walked s.rules names) w words).stopped
unfolding walk_fault walked
walk_fine s names [] w off fine e = fine
walk_fine s names (word ∷ rest) w off fine e =
    let turn : turn_fault s names w word ≡ [] = none_first _ _ e in
    walk_fine s names rest (walked s.rules names w word) off (turn_fine s names w.stopped w word off fine fine (turn_word w.stopped _ _ turn)) (none_then _ _ e)

-- a last check without a fault met a subcommand
check_met : (help has_subcommand wanted missing : Bool) → wanted ≡ true → check_kinds help (not has_subcommand && wanted) missing ≡ [] → has_subcommand ≡ true
check_met help true wanted missing is e = refl
check_met true false wanted missing is e = absurd cc
check_met false false true missing is e = absurd cc
check_met false false false missing is e = absurd cc

check_wants : (s : Shape) (rows : List Row) (has_subcommand : Bool) → s.subcommand_required ≡ true → check_fault s rows has_subcommand ≡ [] → has_subcommand ≡ true
check_wants s rows has_subcommand wanted e =
    check_met (not has_subcommand && (s.arg_required_else_help && not (list_any (λ r. explicit_source r.source) rows))) has_subcommand s.subcommand_required
    (not (s.subcommand_negates_reqs && has_subcommand) && list_any (λ a. a.required && not (is_given a.id rows)) s.rules) wanted e

or_none : (b : Bool) → (b || false) ≡ true → b ≡ true
or_none true e = refl
or_none false e = absurd cc

module _ {X : Type 0} (named : Text → Option X) where
  -- a subcommand that has a name of the program's, or is the one for help
  abbrev pub IsNamed : Shape → Type 0
  IsNamed s = (is_some (named s.name) ≡ true) ⊎ ((s.name ≡ codes "help") × (s.aliases ≡ []))

  abbrev pub AreNamed : List Shape → Type 0
  AreNamed [] = Unit {0}
  AreNamed (s ∷ subs) = IsNamed s × AreNamed subs

  -- what is given of the first of these that answers to a word, with its name
  abbrev given_of : Text → List Text → Option Shape → Option (Text × List Row)
  given_of word words found = option_map (λ s. rows_at s words) found

  abbrev is_named : Option (Text × List Row) → Bool
  is_named given = is_some (option_and_then (λ g. named g.0) given)

  answers_named : (word : Text) (s : Shape) → IsNamed s → bytes_eq word (codes "help") ≡ false → answers_to word (label_of s) ≡ true → is_some (named s.name) ≡ true
  answers_named word s (inl is) other answers = is
  answers_named word s (inr (is, alone)) other answers =
      let same : bytes_eq s.name word ≡ true = or_none _ (subst (λ xs. (bytes_eq s.name word || list_any (λ alias. bytes_eq alias word) xs) ≡ true) alone answers) in
      let help : bytes_eq word (codes "help") ≡ true = (bytes_eq-Decides word (codes "help")).1 (sym ((bytes_eq-Decides s.name word).0 same) ∙ is) in
      absurd cc

  found_named : (word : Text) (words : List Text) (subs : List Shape) → AreNamed subs → bytes_eq word (codes "help") ≡ false
      → is_some (given_of word words (find (λ s. answers_to word (label_of s)) subs)) ≡ true → is_named (given_of word words (find (λ s. answers_to word (label_of s)) subs)) ≡ true
  found_named word words [] are other e = absurd cc
  found_named word words (s ∷ subs) (is, are) other e = here (answers_to word (label_of s)) refl (found_named word words subs are other) e
    where
      here : (b : Bool) → answers_to word (label_of s) ≡ b
          → (is_some (given_of word words (find (λ s. answers_to word (label_of s)) subs)) ≡ true → is_named (given_of word words (find (λ s. answers_to word (label_of s)) subs)) ≡ true)
          → is_some (given_of word words (if b then Some s else find (λ s. answers_to word (label_of s)) subs)) ≡ true
          → is_named (given_of word words (if b then Some s else find (λ s. answers_to word (label_of s)) subs)) ≡ true
      here true answers rest e = answers_named word s is other answers
      here false answers rest e = rest e

  stopped_named : (a : App) (stop : Option (Text × List Text)) → AreNamed a.subs → IsNotHelp stop → is_some (entered a stop) ≡ true → is_named (entered a stop) ≡ true
  stopped_named a None are fine e = absurd cc
  stopped_named a (Some p) are fine e = found_named p.0 p.1 a.subs are fine e

  -- over a built command that wants a subcommand, where the words have no fault
  pub names_one : (a : App) (words : List Text) → a.top.disable_help_subcommand ≡ false → a.top.subcommand_required ≡ true → AreNamed a.subs → built_fault a nothing_held words ≡ []
      → is_named (entered a (walk a.top.rules (names_of a) nothing_held words).stopped) ≡ true
  names_one a words on wanted are e =
      let top = a.top in
      let end = walk top.rules (names_of a) nothing_held words in
      let walks = walk_fault top (names_of a) (walk_from nothing_held) words in
      let settles = settle_fault top.rules top.args_override_self end.held in
      let defaults = defaults_fault (settled top.rules end.held).rows top.rules in
      let checks = check_fault top (finished top.rules end.held) (is_some (entered a end.stopped)) in
      let below = none_then walks (or_else (entered_fault a end.stopped) (or_else settles (or_else defaults checks))) e in
      let last = none_then defaults checks (none_then settles (or_else defaults checks) (none_then (entered_fault a end.stopped) (or_else settles (or_else defaults checks)) below)) in
      let fine = walk_fine top (names_of a) words (walk_from nothing_held) on tt (none_first walks _ e) in
      stopped_named a end.stopped are fine (check_wants top (finished top.rules end.held) (is_some (entered a end.stopped)) wanted last)

-- the words of the program that have no fault name one of its commands
pub names_command : (words : List Text) → fault_of program_app words ≡ [] → is_some (named_in (given_by words)) ≡ true
unfolding clap_on_literals
names_command words e =
    names_one command_named (built program_app) words refl refl
    (inl refl, (inl refl, (inl refl, (inl refl, (inl refl, (inl refl, (inl refl, (inr (refl, refl), tt)))))))) e

pub named_if_read : (r : Result ArgMatches Error) (words : List Text) → IfOk r (λ m. subcommand_rows_of m ≡ given_by words) → FailsBy (fault_of program_app words) r
    → IfOk r (λ m. IsTrue (is_some (named_in (subcommand_rows_of m))))
named_if_read (Ok m) words given good = subst (λ g. is_some (named_in g) ≡ true) (sym given) (names_command words good)
named_if_read (Err e) words given good = tt
