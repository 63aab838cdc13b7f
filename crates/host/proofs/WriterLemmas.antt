-- What a call leaves in a buffer, if only the bytes are known that it wrote.
use Rattle.std.proofs.Common.{◌≡◌, ℕ, List, [], ◌++◌, append_assoc, get_or, drop, sym, ap, ◌∙◌}
use Rattle.std.proofs.lemmas.List.{append_cancel_right}
use Rattle.sabr_model.specs.Devices.{Takes}
use Rattle.host.specs.Buffers.{buffer_output, put_over}
use Rattle.host.specs.declared.buffer.Buffer.{Buffer}

module _ (old new : Buffer) (bytes : List ℕ) (takes : Takes (buffer_output old.room.ghost_name old.before.bytes old.taken.bytes old.failures.count) bytes (buffer_output new.room.ghost_name new.before.bytes new.taken.bytes new.failures.count)) where
  -- the writer has the same loan, and the same buffer
  pub same_loan : new.room.ghost_name ≡ old.room.ghost_name
  same_loan = ap (λ xs. get_or xs 0 0) takes.1

  pub same_before : new.before.bytes ≡ old.before.bytes
  same_before = append_cancel_right new.before.bytes old.before.bytes (old.taken.bytes ++ bytes)
      (ap (λ xs. new.before.bytes ++ xs) (sym takes.0) ∙ ap (drop 1) takes.1 ∙ append_assoc old.before.bytes old.taken.bytes bytes)

  -- so a buffer that was lent to a new writer ends with the bytes put over it
  pub put_by_call : (lent : ℕ) (room last : List ℕ) → old.room.ghost_name ≡ lent → old.before.bytes ≡ room → old.taken.bytes ≡ [] → (lent ≡ new.room.ghost_name → last ≡ new.room.now) → (last ≡ put_over room bytes) × (new.taken.bytes ≡ bytes)
  put_by_call lent room last same held none ends =
      let all : new.taken.bytes ≡ bytes = takes.0 ∙ ap (λ xs. xs ++ bytes) none in
      (ends (sym (same_loan ∙ same)) ∙ new.stored ∙ ap (λ xs. put_over xs new.taken.bytes) (same_before ∙ held) ∙ ap (put_over room) all, all)
