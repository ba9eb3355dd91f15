-- How a proof tells what lock managers keep apart: by lists, options and pairs.
--     coded_sets      two sets of keys as a pair, and back
--     coded_locking      what a lock manager keeps as pairs, and back
use Rattle.std.specs.Prelude.{List, Option, refl}
use Rattle.std.specs.Coded.{Coded, code_by, coded×, coded_list, coded_option}
use Rattle.std.specs.FinMap.{code}
use Rattle.calvin_types.specs.declared.key.Key.{Key}
use Rattle.calvin_types.specs.declared.key_set.Sets.{Sets}
use Rattle.calvin_types.specs.declared.place.Place.{Place}
use Rattle.calvin_types.specs.Codes.{coded_key, coded_place}
use Rattle.calvin_lock.specs.Ready.{Requested}
use Rattle.calvin_lock.specs.Locking.{Locking}

abbrev pub coded_sets : Coded Sets
coded_sets = code_by (List Key × List Key) (coded× (coded_list coded_key) (coded_list coded_key)) (λ s. (s.reads, s.writes)) (λ p. record { reads = p.0; writes = p.1 }) (λ _. refl)

abbrev pub coded_locking : Coded Locking
coded_locking = code_by (Requested × Option Place) (coded× (code coded_place coded_sets) (coded_option coded_place))
    (λ l. (l.requested, l.last)) (λ p. record { requested = p.0; last = p.1 }) (λ _. refl)
