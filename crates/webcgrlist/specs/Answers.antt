-- What the host gets of a call.
use Rattle.std.specs.Prelude.{◌≡◌, ℕ, nat_le, ◌&&◌, Bool, true, false, List, [], length}
use Rattle.commands.specs.declared.failure.Status.{Status}
use Rattle.commands.specs.declared.failure.Status.TheVariants as status
use Rattle.commands.specs.texts.Messages.{number_of}
use Rattle.host.specs.Buffers.{put_over}
use Rattle.webcgrlist.specs.declared.asked.Asked.{Asked}
use Rattle.webcgrlist.specs.declared.call.Run.{Run}
use Rattle.webcgrlist.specs.declared.outputs.Lengths.{Lengths}
use Rattle.webcgrlist.specs.declared.outputs.OutputText.{OutputText}
use Rattle.webcgrlist.specs.declared.outputs.Outputs.{Outputs}
use Rattle.webcgrlist.specs.Calls.{EndsCall}
use Rattle.webcgrlist.specs.Runs.{WritersSeen}

-- what three buffers hold
pub record Texts : Type 0 where
  pub report : List ℕ
  pub session : List ℕ
  pub message : List ℕ

-- what the outputs of a call hold
abbrev pub texts_of : Outputs → Texts
texts_of o = record { report = o.report.buffer.now; session = o.session.buffer.now; message = o.message.buffer.now }

-- the lengths that they hold
abbrev pub lengths_in : Outputs → Lengths
lengths_in o = record { report = o.report.length; session = o.session.length; message = o.message.length }

-- nothing was written yet
pub record IsUnwritten (w : WritersSeen) : Type 0 where
  pub report : w.report.taken ≡ []
  pub session : w.session.taken ≡ []
  pub message : w.message.taken ≡ []

-- a text was put to the front of a buffer, as far as there was room, and its length was set
pub record IsPut (text old new : List ℕ) (number : ℕ) : Type 0 where
  pub buffer : new ≡ put_over old text
  pub counted : number ≡ length text

-- what a call leaves in three buffers: it ended so over writers to which nothing was written before, and each text that
-- was written is put over its buffer
pub record Writes (run : Run) (a : Asked) (old new : Texts) (lengths : Lengths) (ended : Status) : Type 0 where
  pub before : WritersSeen
  pub after : WritersSeen
  pub unwritten : IsUnwritten before
  pub ends : EndsCall run a before after ended
  pub report : IsPut after.report.taken old.report new.report lengths.report
  pub session : IsPut after.session.taken old.session new.session lengths.session
  pub message : IsPut after.message.taken old.message new.message lengths.message

-- whether a text fits into its buffer
abbrev pub fits : OutputText → Bool
fits t = nat_le t.length (length t.buffer.now)

-- whether each does
abbrev pub all_fit : Outputs → Bool
all_fit o = fits o.report && fits o.session && fits o.message

-- the status that the host gets: that of memory, if a text doesn't fit into its buffer, or a writer failed
abbrev pub host_status : Bool → Status → Status
host_status false ended = status.Memory
host_status true status.Io = status.Memory
host_status true ended = ended

-- what the host gets of a call: its texts, and the number of its status
pub record Answers (run : Run) (a : Asked) (old new : Outputs) (result : ℕ) : Type 0 where
  pub ended : Status
  pub writes : Writes run a (texts_of old) (texts_of new) (lengths_in new) ended
  pub returned : result ≡ number_of (host_status (all_fit new) ended)
