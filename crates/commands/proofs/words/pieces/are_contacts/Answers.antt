use Rattle.std.proofs.Common.{◌≡◌, ◌&&◌, ℕ, Bool, List, [], ◌∷◌, map, refl, sym, ◌∙◌, rules, tests}
use Rattle.std.proofs.lemmas.Iterator.Search.{all_from_yields_List}
use Rattle.std.proofs.lemmas.Iterator.Splits.{YieldsList-from_slice_split}
use Rattle.std.specs.List.{list_all}
use Rattle.std.specs.Prelude.{is_some, option_map}
use Rattle.std.specs.declared.option.Option.{Option}
use Rattle.std.specs.declared.option.Option.TheVariants.{Some, None}
use Rattle.commands.specs.words.Values.{numbers_within}
use Rattle.sabr_plan.specs.Pieces.{pieces_of}
use Rattle.sabr_plan.specs.Numbers.{number_within}
use Rattle.sabr_session.specs.SessionWords.{all_of, most_number}
use Rattle.commands.proofs.words.pieces.are_contacts.Goals as goal

put_before : (n : ℕ) (rest : Option (List ℕ)) → is_some (option_map (λ ns. n ∷ ns) rest) ≡ is_some rest
put_before n None = refl
put_before n (Some ns) = refl

-- each is there exactly if all are
both : (o : Option ℕ) (os : List (Option ℕ)) (others : Bool) → others ≡ is_some (all_of os) → (is_some o && others) ≡ is_some (all_of (o ∷ os))
both None os others e = refl
both (Some n) os others e = e ∙ sym (put_before n (all_of os))

each_is_all : (f : List ℕ → Option ℕ) (ps : List (List ℕ)) → list_all (λ p. is_some (f p)) ps ≡ is_some (all_of (map f ps))
each_is_all f [] = refl
each_is_all f (p ∷ ps) = both (f p) (map f ps) _ (each_is_all f ps)

pub returns : goal.returns
unfolding numbers_within pieces_of
returns c =
    let pieces = YieldsList-from_slice_split _ _ c.args.text.now c.split.ensures.rest c.split.ensures.done c.split.ensures.closure (λ x r q k. search (rules, tests)) in
    all_from_yields_List (λ p. is_some (number_within 1 most_number p)) _ _ c.all.result c.all.ensures.ran pieces (λ x b q k. search (rules, tests))
    ∙ each_is_all (number_within 1 most_number) (pieces_of 44 c.args.text.now)
