-- The pieces of a text.
use Rattle.std.specs.Prelude.{ℕ, List, decimal}
use Rattle.sabr_session.specs.SessionText.{list_text}
use Rattle.sabr_session.specs.declared.writing.pieces.Piece.{Piece}
use Rattle.sabr_session.specs.declared.writing.pieces.Piece.TheVariants.{Text, Number, Contacts, Nodes}

-- what is put of a piece
abbrev pub piece_text : Piece → List ℕ
piece_text (Text bytes) = bytes.now
piece_text (Number n) = decimal n
piece_text (Contacts ns) = list_text ns.now
piece_text (Nodes ns) = list_text ns.now
