use Rattle.std.proofs.Common.{map}
use Rattle.std.specs.List.{flat_map}
use Rattle.sabr_frontier.specs.session.Views.{seen_of}
use Rattle.sabr_session.specs.Gathering.{HasPut}
use Rattle.sabr_session.specs.SessionText.{seen_line}
use Rattle.sabr_session.proofs.writing.session_text.put_parts.Given as goal

abbrev pub invariant-loop-part : goal.invariant-loop-part
invariant-loop-part g l = HasPut g.W.Write.output l.fn.text (flat_map seen_line (map seen_of l.yielded)) l.text
