-- The cache of the searches of one plan and request.
use Rattle.std.specs.Prelude.{IfSome}
use Rattle.sabr_model.specs.plan.Plan.{TabledPlan}
use Rattle.sabr_model.specs.routes.Arrival.{RouteRequest}
use Rattle.sabr_search.specs.declared.search_cache.SearchCache.{SearchCache}
use Rattle.sabr_search.specs.declared.early.Memory.{Memory}
use Rattle.sabr_search.specs.questions.PrefixPath.{IsPrefixPath}
use Rattle.sabr_search.specs.layers.NodeBounds.{AreNodeBounds}
use Rattle.sabr_search.specs.layers.WholeDeadlines.{AreWholeDeadlines}
use Rattle.sabr_search.specs.answers.CachedAnswers.{AreAnswers}

-- what may spare a search is true of the plan and the request
abbrev pub IsMemory : {A : Type 0} → TabledPlan → RouteRequest → Memory A → Type 0
IsMemory p r memory = AreNodeBounds p r memory.node_bounds × AreWholeDeadlines p r memory.whole_deadlines × AreAnswers p r memory.answers.slots.items

-- so is all that is cached
abbrev pub IsSearchCache : {A : Type 0} → TabledPlan → RouteRequest → SearchCache A → Type 0
IsSearchCache p r cache = IfSome cache.prefix_path (IsPrefixPath p r) × IsMemory p r cache.memory
