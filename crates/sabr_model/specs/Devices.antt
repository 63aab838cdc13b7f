-- What a contract sees of a reader and of a writer, which bytes a call moves, and what a call that writes a text leaves.
use Rattle.std.specs.Prelude.{◌≡◌, ℕ, ◌+◌, Bool, false, IsTrue, ◌⊎◌, List, [], ◌∷◌, ◌++◌, take, Result, Ok, Err, Option, Some, cond, eqb}
use Rattle.std.specs.Io.KnownBytes.{Appends, Consumes, IsAtEnd, Keeps}

-- what a contract sees of a reader
pub record Input : Type 0 where
  -- the bytes that are left, if the reader knows them
  pub remaining : Option (List ℕ)
  -- all bytes that its reads gave
  pub given : List ℕ
  -- whether its last read gave no byte though there was room
  pub ended : Bool
  -- how often it has failed
  pub failures : ℕ

-- what a contract sees of a writer
pub record Output : Type 0 where
  -- the bytes that it holds, if the writer knows them
  pub contents : Option (List ℕ)
  -- all bytes that its writes took
  pub taken : List ℕ
  -- how often it has failed
  pub failures : ℕ
  -- whether all bytes that were taken were flushed: known after a flush that succeeded, until the next call
  pub flushed : Bool

-- whether no byte was returned though there was room
abbrev pub none_given : ℕ → List ℕ → Bool
none_given n [] = false
none_given n (_ ∷ _) = eqb n 0

-- whether a read reports the end
abbrev pub tells_end : {E : Type 0} → Result ℕ E → List ℕ → Bool
tells_end (Ok n) buf = none_given n buf
tells_end (Err _) buf = false

-- these bytes were returned; if the reader knew what was left, it began with them, and they are gone
abbrev pub Gives : Input → List ℕ → Input → Type 0
Gives old bytes new = (new.given ≡ old.given ++ bytes) × Consumes old.remaining new.remaining bytes

-- no byte was returned
abbrev pub GivesNone : Input → Input → Type 0
GivesNone old new = (new.given ≡ old.given) × Keeps old.remaining new.remaining

-- what a read returns: as many bytes of the buffer as its count, and none at an error
abbrev pub ReadGives : {E : Type 0} → Input → Result ℕ E → List ℕ → Input → Type 0
ReadGives old (Ok n) buf new = Gives old (take n buf) new
ReadGives old (Err _) buf new = GivesNone old new

-- these bytes were taken; if the writer knew what it held, they come after that
abbrev pub Takes : Output → List ℕ → Output → Type 0
Takes old bytes new = (new.taken ≡ old.taken ++ bytes) × Appends old.contents new.contents bytes

-- no byte was taken
abbrev pub TakesNone : Output → Output → Type 0
TakesNone old new = (new.taken ≡ old.taken) × Keeps old.contents new.contents

-- what a write takes: as many bytes of the slice as its count, and none at an error
abbrev pub WriteTakes : {E : Type 0} → Output → Result ℕ E → List ℕ → Output → Type 0
WriteTakes old (Ok n) buf new = Takes old (take n buf) new
WriteTakes old (Err _) buf new = TakesNone old new

-- the last read reported the end, and no known byte is left
abbrev pub HasEnded : Input → Type 0
HasEnded new = IsTrue new.ended × IsAtEnd new.remaining

-- a text that is a reader's: what it gave is a beginning of the text, and all of it if it has ended
pub record GivesOf (old : Input) (text : List ℕ) (new : Input) : Type 0 where
  pub begins : List ℕ
  pub rest : List ℕ
  pub parts : text ≡ begins ++ rest
  pub gives : new.given ≡ old.given ++ begins
  pub all : IsTrue new.ended → rest ≡ []

-- the text is a reader's, or it is what the reader knew to be left
abbrev pub IsTextOf : Input → List ℕ → Input → Type 0
IsTextOf old text new = (old.remaining ≡ Some text) ⊎ GivesOf old text new

-- a writer took these bytes and no others, or knows that it did
abbrev pub TakesAll : Output → List ℕ → Output → Type 0
TakesAll old bytes new =
    (new.taken ≡ old.taken ++ bytes) ⊎ ((before : List ℕ) × (old.contents ≡ Some before) × (new.contents ≡ Some (before ++ bytes)))

-- 1 for an error, 0 for success
abbrev pub call_faults : {A E : Type 0} → Result A E → ℕ
call_faults (Ok _) = 0
call_faults (Err _) = 1

-- 1 if no byte was taken of a slice that is not empty
abbrev pub stall_faults : ℕ → List ℕ → ℕ
stall_faults n [] = 0
stall_faults n (_ ∷ _) = cond (eqb n 0) 1 0

-- 1 for an error, and for a write that takes no byte of a slice that is not empty
abbrev pub write_faults : {E : Type 0} → Result ℕ E → List ℕ → ℕ
write_faults (Ok n) buf = stall_faults n buf
write_faults (Err _) _ = 1

-- all of the text was taken, and nothing failed
abbrev pub Written : Output → List ℕ → Output → Type 0
Written old text new = Takes old text new × (new.failures ≡ old.failures)

-- all of the text was taken, nothing failed, and all was flushed after it
abbrev pub WrittenAndFlushed : Output → List ℕ → Output → Type 0
WrittenAndFlushed old text new = Written old text new × IsTrue new.flushed

-- a beginning of the text was taken
abbrev pub TakesBeginning : Output → List ℕ → Output → Type 0
TakesBeginning old text new = (front : List ℕ) × ((back : List ℕ) × (text ≡ front ++ back)) × Takes old front new

-- a beginning of the text was taken, and there is one more failure
abbrev pub WrittenInPart : Output → List ℕ → Output → Type 0
WrittenInPart old text new = TakesBeginning old text new × (new.failures ≡ old.failures + 1)

-- what a call that writes a text leaves: all of the text if it returns Ok, and else a beginning of it and the failure
abbrev pub WritesText : {A E : Type 0} → Output → List ℕ → Result A E → Output → Type 0
WritesText old text (Ok _) new = Written old text new
WritesText old text (Err _) new = WrittenInPart old text new
