-- Each layout has the places and sizes of its table, by computing: two parts of one width that changed places would be seen.
use mathlib.Core.Path.{◌≡◌, refl}
use mathlib.Core.List.{[], ◌∷◌}
use Rattle.record.specs.Layout.{plan_size, plan1, plan2, plan3, seat}
use Rattle.record.specs.Places.{rows_of, table1, table2, table3, seat_rows}

pub sizes : plan_size plan1 ∷ plan_size plan2 ∷ plan_size plan3 ∷ plan_size seat ∷ [] ≡ 123 ∷ 124 ∷ 126 ∷ 112 ∷ []
sizes = refl

pub places1 : rows_of plan1 ≡ table1
places1 = refl

pub places2 : rows_of plan2 ≡ table2
places2 = refl

pub places3 : rows_of plan3 ≡ table3
places3 = refl

pub places-seat : rows_of seat ≡ seat_rows
places-seat = refl
