use Rattle.sabr_model.proofs.ListLemmas.Names.{◌≡◌, ◌≢◌, ℕ, ◌+◌, ◌-◌, ◌<◌, List, [], ◌∷◌, take, drop, length, arith, sym, ◌∙◌, ap, length-drop, append-nil, refl, take-add, take-append-drop, take_all, nat_tests, stall_faults}
use Rattle.sabr_model.proofs.ListLemmas.WrittenTexts.{Takes-append, Takes-kept}
use Rattle.sabr_model.proofs.devices.write_text.Goals as goal

rest : (text : List ℕ) (at : ℕ) → take (length text - at) (drop at text) ≡ drop at text
rest text at = take_all _ _ (omega (arith, length-drop {A = ℕ}))

-- a write that took something has not stalled
went : (n : ℕ) (xs : List ℕ) → n ≢ 0 → stall_faults n xs ≡ 0
went n [] h = refl
went n (x ∷ xs) h = grind (arith, nat_tests)

-- a write that took nothing of a piece that is not empty has stalled
stalls : (n : ℕ) (xs : List ℕ) → n ≡ 0 → 0 < length xs → stall_faults n xs ≡ 1
stalls n [] e h = absurd (omega arith)
stalls n (x ∷ xs) e h = rw e refl

pub loop-at-preserved : goal.loop-at-preserved
loop-at-preserved g c =
    let h = c.in-Ok.ensures {u = tt} in
    let text : List ℕ = c.args.text.now in
    let e = rest text c.loop-at.at in
    let more : c.in-Ok.taken ≢ 0 = c.if-taken-eq0.false in
    record {
      in_range = omega (arith, h.bound, ap length e, length-drop {A = ℕ});
      written = rw take-add (Takes-append (g.W.Write.output c.args.writer.now) (g.W.Write.output c.loop-at.writer) (g.W.Write.output c.write.new.self) _ _ c.loop-at.invariant.written (rw e at h.bytes));
      fine = let none = went c.in-Ok.taken (take (length text - c.loop-at.at) (drop c.loop-at.at text)) more in omega (arith, h.count, none, c.loop-at.invariant.fine);
    }

pub returns-in_default : goal.returns-in_default
returns-in_default g c =
    let h = c.in_default.ensures in
    let text : List ℕ = c.args.text.now in
    ((take c.loop-at.at text, (drop c.loop-at.at text, sym (take-append-drop c.loop-at.at text)), Takes-kept (g.W.Write.output c.args.writer.now) (g.W.Write.output c.loop-at.writer) (g.W.Write.output c.write.new.self) _ c.loop-at.invariant.written h.bytes), omega (arith, h.count, c.loop-at.invariant.fine))

pub returns-then-taken-eq0 : goal.returns-then-taken-eq0
returns-then-taken-eq0 g c =
    let h = c.in-Ok.ensures {u = tt} in
    let text : List ℕ = c.args.text.now in
    let none = c.if-taken-eq0.true in (
      (
        take c.loop-at.at text,
        (drop c.loop-at.at text, sym (take-append-drop c.loop-at.at text)),
        rw append-nil at (Takes-append (g.W.Write.output c.args.writer.now) (g.W.Write.output c.loop-at.writer) (g.W.Write.output c.write.new.self) (take c.loop-at.at text) [] c.loop-at.invariant.written (rw none at h.bytes)),
      ),
      h.count ∙ ap (λ k. (g.W.Write.output c.loop-at.writer).failures + k) (stalls _ _ none (rw (rest text c.loop-at.at) (omega (arith, length-drop {A = ℕ}, c.loop-at-test.true)))) ∙ ap (λ k. k + 1) c.loop-at.invariant.fine,
    )
