use Rattle.std.proofs.Common.{◌≡◌, ◌-◌, ◌++◌, [], ℕ, List, length, take, drop, sym, ap, subst, ◌∙◌, arith, length-append, length-drop, append-nil, map}
use Rattle.std.specs.Prelude.{IsPermutation}
use borrow.Rule.Slice.PartMut.{put_mid}
use Rattle.std.proofs.lemmas.List.{take_at, drop_at, drop_all, length-map}
use Rattle.std.proofs.lemmas.List.Sorted.{length_permutation}
use Rattle.std.proofs.lemmas.Slice.{between_to_end}
use Rattle.sabr_index.specs.declared.link.Pass.{Pass}
use Rattle.sabr_index.specs.Linking.{numbers_at, contact_of}
use Rattle.sabr_index.proofs.LinkLemmas.{are_links}
use Rattle.sabr_index.proofs.building.add_node.Goals as goal

-- the passes that were added, and then put in order at the end of the list
ordered : (old made lent ready all : List Pass) (first count : ℕ) → all ≡ old ++ made → lent ≡ all → first ≡ length old → count ≡ length all → IsPermutation (map contact_of (take (length lent - first) (drop first lent))) (map contact_of ready)
    → IsPermutation (map contact_of made) (map contact_of ready) × (length ready ≡ length made) × (take count (put_mid first (length lent - first) lent ready ++ drop (length (put_mid first (length lent - first) lent ready)) all) ≡ old ++ ready)
ordered old made lent ready all first count all_are same first_is count_is moved =
    let lent_is : lent ≡ old ++ made = same ∙ all_are in
    let front : take first lent ≡ old = ap (take first) lent_is ∙ take_at old made first (sym first_is) in
    let part : take (length lent - first) (drop first lent) ≡ made = between_to_end lent first (length lent) (omega arith) ∙ ap (drop first) lent_is ∙ drop_at old made first (sym first_is) in
    let rest : drop (length lent - first) (drop first lent) ≡ [] = drop_all (length lent - first) (drop first lent) (omega (arith, length-drop first lent)) in
    let whole : put_mid first (length lent - first) lent ready ≡ old ++ ready = rw (front, rest, append-nil ready) in
    let made_moved : IsPermutation (map contact_of made) (map contact_of ready) = subst (λ (xs : List Pass). IsPermutation (map contact_of xs) (map contact_of ready)) part moved in
    let many : length ready ≡ length made = (let as_many = length_permutation (map contact_of made) (map contact_of ready) made_moved in omega (arith, as_many, length-map made contact_of, length-map ready contact_of)) in (
      made_moved,
      many,
      take_at (put_mid first (length lent - first) lent ready) (drop (length (put_mid first (length lent - first) lent ready)) all) count
          (omega (arith, count_is, many, ap (λ (xs : List Pass). length xs) whole, ap (λ (xs : List Pass). length xs) all_are, length-append old made, length-append old ready))
          ∙ whole,
    )

pub returns : goal.returns
returns g c =
    let p = c.args.plan.now in
    let numbers = numbers_at p.plan.contacts c.args.places.now in
    let old = c.args.passes.now.items in
    let all = c.push_passes.new.passes.items in
    let w = c.in_ok-push_passes.ensures {u = tt} in
    let r = c.in_ok-link_rows.ensures in
    let ready = c.link_rows.new.passes in
    let s = ordered old w.0 c.deref_mut.result.now ready all c.len-first_pass.result c.push_passes.new.passes.len w.1 c.deref_mut.ensures.value (omega (arith, c.len-first_pass.ensures, c.args.passes.now.ok)) (omega (arith, c.push_passes.new.passes.ok)) r.moved in
    record {
      own = record { links = r.rows.0; passes = ready };
      links_are = r.rows.1;
      passes_are = s.2;
      first_link = omega (arith, c.len-first_link.ensures, c.args.links.now.ok);
      end_link = omega (arith, c.len.ensures, c.link_rows.new.links.ok);
      first_pass = omega (arith, c.len-first_pass.ensures, c.args.passes.now.ok);
      end_pass = omega (arith, c.len-2.ensures, c.push_passes.new.passes.ok, s.1, ap (λ (xs : List Pass). length xs) s.2, ap (λ (xs : List Pass). length xs) w.1, length-append old w.0, length-append old ready);
      over = λ node sent. are_links p node numbers w.0 ready r.rows.0 sent w.2 s.0 r.rows.2;
      few = (let few = r.rows.3 in omega (arith, few, s.1, w.2.few));
    }
