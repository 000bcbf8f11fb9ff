-- What code answers by an `Option`, as the definitions say it.
use Rattle.std.specs.declared.option.Option as Options
use Rattle.std.proofs.Math.Option.{Option, none, some}

abbrev pub maybe : {A : Type 0} → Options.Option A → Option A
maybe Options.TheVariants.None = none
maybe (Options.TheVariants.Some a) = some a
