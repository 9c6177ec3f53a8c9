-- The commands that every board has keep a record in range, in any layout: what they may set is in the ranges of that layout.
use Prim.Native.Nat.{ℕ, ◌≤◌}
use mathlib.Core.Path.{◌≡◌}
use mathlib.Core.List.{List}
use native.Mathlib.Nat.{le_trans}
use lib.ListN.{length}
use Rattle.wire.specs.Numbers.{Bytes, word_at}
use Rattle.wire.specs.Zeros.{before_zero}
use Rattle.wire.specs.declared.Range.TheVariants.{Fits}
use Rattle.record.specs.declared.Setting.TheVariants.{Filter}
use Rattle.record.specs.Record.{Record, with_filter}
use Rattle.record.specs.Layout.{Plan, PowerHalf, has, model_room}
use Rattle.record.specs.Form.{Unless, Silent, InRangeIn}
use Rattle.wire.proofs.ZeroLaws.{cut-le, cut-cut, cut-bytes}
use Rattle.record.proofs.Pieces.{unless-map}
use Rattle.command.specs.declared.Command.TheVariants.{Set, Unlock, SetModel, StopSending, StartSending}
use Rattle.command.specs.Tables.{range_in}
use Rattle.command.specs.Effects.{effect_of}

module _ (p : Plan) (r : Record) (q : List ℕ) (i : InRangeIn p r) where
  pub unlock-in : InRangeIn p (effect_of Unlock r q)
  unfolding effect_of
  unlock-in = search

  pub stop-in : InRangeIn p (effect_of StopSending r q)
  unfolding effect_of
  stop-in = search

  pub start-in : InRangeIn p (effect_of StartSending r q)
  unfolding effect_of
  start-in = search

  pub model_in : length q ≤ model_room → Bytes q → InRangeIn p (effect_of SetModel r q)
  unfolding effect_of
  model_in h b =
      let short : length (before_zero q) ≤ model_room = le_trans (cut-le q) h in
      let whole = cut-cut q in
      let bytes = cut-bytes q b in
      search

  pub filter-in : range_in p (Set Filter) q ≡ Fits → InRangeIn p (effect_of (Set Filter) r q)
  unfolding effect_of range_in
  filter-in h =
      let silent : Unless (has p.parts PowerHalf) (Silent (with_filter r.settings (word_at q 0)) r.outputs) =
      unless-map (has p.parts PowerHalf) (λ s. record { power = s.power; step = s.step; mode = s.mode; on-off = s.on-off; inputs = s.inputs; interval = s.interval; name = s.name; outputs = s.outputs }) i.silent in
      search
