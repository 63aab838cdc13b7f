-- What reading a text leaves, to its end or as far as it is read.
use Rattle.std.specs.Prelude.{◌≡◌, ℕ, ◌+◌, Bool, true, false, List, ◌++◌, Result, Ok, Err, ◌⊎◌}
use Rattle.sabr_model.specs.Devices.{Input, Gives, HasEnded}

-- these bytes were read, and the answer is one for a reader that ended after them, failed there, or is read no further
pub record ReadsBytes {A : Type 0} (Ends Breaks Stops : Input → List ℕ → A → Input → Type 0) (old : Input) (answer : A) (new : Input) : Type 0 where
  pub given : List ℕ
  pub gives : Gives old given new
  pub told : Ends old given answer new ⊎ (Breaks old given answer new ⊎ Stops old given answer new)

-- with any bytes after these, a text comes to the same as one that goes on after them
abbrev pub ContinuesAs : {R : Type 0} → (List ℕ → Bool → R) → List ℕ → (List ℕ → Bool → R) → Type 0
ContinuesAs text bytes rest = (more : List ℕ) (ended : Bool) → text (bytes ++ more) ended ≡ rest more ended

-- a fault of a text for all bytes after these
abbrev pub AreRefused : {X F : Type 0} → (List ℕ → Bool → Result X F) → List ℕ → F → Type 0
AreRefused text bytes f = ContinuesAs text bytes (λ _ _. Err f)

-- the reader ended after these bytes, and the answer is one to what their text comes to
abbrev pub EndsText : {A X F : Type 0} → (List ℕ → Bool → Result X F) → (Result X F → Result A F → Type 0) → Input → List ℕ → Result A F → Input → Type 0
EndsText text Answers old given answer new = HasEnded new × (new.failures ≡ old.failures) × Answers (text given true) answer

-- the reader failed after these bytes, which have no fault
abbrev pub BreaksText : {A X F : Type 0} → (List ℕ → Bool → Result X F) → (F → Type 0) → Input → List ℕ → Result A F → Input → Type 0
BreaksText text IsRead old given (Ok a) new = ⊥
BreaksText text IsRead old given (Err f) new = (new.failures ≡ old.failures + 1) × IsRead f × (text given false ≡ Err f)

-- these bytes are refused for all bytes after them, or an allocation failed
abbrev pub RefusesText : {A X F : Type 0} → (List ℕ → Bool → Result X F) → (F → Type 0) → (F → Type 0) → Input → List ℕ → Result A F → Input → Type 0
RefusesText text IsRead IsNoMemory old given (Ok a) new = ⊥
RefusesText text IsRead IsNoMemory old given (Err f) new = (new.failures ≡ old.failures) × (IsNoMemory f ⊎ ((IsRead f → ⊥) × AreRefused text given f))

-- reading a text to its end, or up to its first fault, that of its reader or a failed allocation
abbrev pub ReadsToEnd : {A X F : Type 0} → (List ℕ → Bool → Result X F) → (Result X F → Result A F → Type 0) → (F → Type 0) → (F → Type 0) → Input → Result A F → Input → Type 0
ReadsToEnd text Answers IsRead IsNoMemory = ReadsBytes (EndsText text Answers) (BreaksText text IsRead) (RefusesText text IsRead IsNoMemory)
