use Rattle.sabr_frontier.proofs.Names.{ℕ, List, [], ◌∷◌, rules, nat_eq, not, ap, sym, ◌∙◌, filter_same, option_map_or}
use Rattle.std.specs.List.{filter}
use Rattle.sabr_frontier.proofs.tree.excluded_numbers.ExcludedNumbers.forget.Goals as goal

pub returns-in-None : goal.returns-in-None
returns-in-None g c =
    let seen = λ (items : List ℕ). ap (λ o. option_map_or (λ (n : ℕ). n ∷ []) o items) c.in-None.is in
    seen c.retain.new.self.items ∙ filter_same _ (λ x. not (nat_eq x c.args.number)) _ (λ x b f' k. search rules) _ _ c.retain.ensures.filtered
    ∙ ap (filter (λ x. not (nat_eq x c.args.number))) (sym (seen c.self.inside.items.items) ∙ c.self.view_is)
