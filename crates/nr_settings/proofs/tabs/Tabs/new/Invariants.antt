use Rattle.std.proofs.Common.{◌≡◌, length}
use Rattle.nr_settings.specs.Tabs.{every_eighth}
use Rattle.nr_settings.proofs.tabs.Tabs.new.Given as goal

abbrev pub invariant-loop-count : goal.invariant-loop-count
invariant-loop-count l = (l.stops ≡ every_eighth l.count) × (length l.stops ≡ l.count)
