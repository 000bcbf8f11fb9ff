-- The samples marked P are right, all of them, by computation  [01 "Sample readings"].
use mathlib.Core.Path.{refl}
use Rattle.text.specs.Cases.{Right}
use Rattle.orgtable.specs.Samples.{samples, OpenSamples}

pub samples-right : Right samples
unfolding OpenSamples
samples-right = refl
