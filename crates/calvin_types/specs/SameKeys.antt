-- Whether two lists of keys, or two pairs of sets, are the same.
--     equal_keys a b      whether two keys are the same
--     same_keys, same_sets      whether lists of keys are, one by one;  whether both sets are
use Rattle.std.specs.Prelude.{Bool, ◌&&◌, ◌==◌, List}
use Rattle.std.specs.Cmp.Lexicographic.{pointwise}
use Rattle.calvin_types.specs.declared.key.Key.{Key}
use Rattle.calvin_types.specs.declared.key_set.Sets.{Sets}

abbrev pub equal_keys : Key → Key → Bool
equal_keys a b = (a.table == b.table) && (a.id == b.id)

abbrev pub same_keys : List Key → List Key → Bool
same_keys = pointwise equal_keys

-- whether declared sets are those that are needed
abbrev pub same_sets : Sets → Sets → Bool
same_sets a b = same_keys a.reads b.reads && same_keys a.writes b.writes
