-- Every starred example comes out.
use mathlib.Core.Path.{refl}
use Rattle.record.specs.Layout.{bytes_of, record_of}
use Rattle.record.specs.Births.{factory}
use Rattle.call.specs.Calls.{bytes_call}
use Rattle.demands.specs.Examples.{starred, ExamplesHold}

pub starred-hold : ExamplesHold starred
unfolding bytes_call factory bytes_of record_of
starred-hold = (
  (refl, refl, refl),
  (
    (refl, refl, tt),
    (
      (refl, refl, refl),
      (
        (refl, refl, tt),
        (
          (refl, refl, refl),
          (
            (refl, refl, tt),
            (
              (refl, refl, tt),
              ((refl, refl, tt), ((refl, refl, tt), ((refl, refl, refl), ((refl, refl, refl), ((refl, refl, refl), ((refl, refl, refl), tt)))))),
            ),
          ),
        ),
      ),
    ),
  ),
)
