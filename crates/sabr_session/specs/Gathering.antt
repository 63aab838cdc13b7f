-- What a call that puts a text into a buffer before its writer leaves.
use Rattle.std.specs.Prelude.{◌≡◌, ℕ, List, [], ◌++◌, Result, Ok, Err}
use Rattle.std.specs.Borrow.{MutBor}
use Rattle.sabr_model.specs.Devices.{Output, Written, WrittenInPart}
use Rattle.sabr_session.specs.declared.writing.text_buffer.TextBuffer.{TextBuffer}

-- a buffer before this writer, which holds no bytes
pub record IsEmptyBefore {W : Type 0} (writer : MutBor W) (text : TextBuffer W) : Type 0 where
  pub same_writer : text.writer.ghost_name ≡ writer.ghost_name
  pub unchanged : text.writer.now ≡ writer.now
  pub empty : text.held.items ≡ []

-- by what a contract sees of writers of type `W`
module _ {W : Type 0} (output : W → Output) where
  -- the buffer keeps its writer, and the bytes held and the text were written, except for what is held now
  pub record HasPut (old : TextBuffer W) (text : List ℕ) (new : TextBuffer W) : Type 0 where
    pub same_writer : new.writer.ghost_name ≡ old.writer.ghost_name
    pub sent : List ℕ
    pub left : old.held.items ++ text ≡ sent ++ new.held.items
    pub written : Written (output old.writer.now) sent (output new.writer.now)

  -- the buffer keeps its writer, which failed after a beginning of these bytes
  pub record StopsIn (old : TextBuffer W) (bytes : List ℕ) (new : TextBuffer W) : Type 0 where
    pub same_writer : new.writer.ghost_name ≡ old.writer.ghost_name
    pub stopped : WrittenInPart (output old.writer.now) bytes (output new.writer.now)

  -- the text comes after the bytes held, or the writer failed in both
  abbrev pub Puts : {A E : Type 0} → TextBuffer W → List ℕ → Result A E → TextBuffer W → Type 0
  Puts old text (Ok _) new = HasPut old text new
  Puts old text (Err _) new = StopsIn old (old.held.items ++ text) new

  -- the bytes held were written and none is held, or the writer failed in them
  abbrev pub Sends : {A E : Type 0} → TextBuffer W → Result A E → TextBuffer W → Type 0
  Sends old (Ok _) new = HasPut old [] new × (new.held.items ≡ [])
  Sends old (Err _) new = StopsIn old old.held.items new
