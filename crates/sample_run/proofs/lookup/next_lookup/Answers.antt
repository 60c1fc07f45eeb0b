use Rattle.std.proofs.Common.{◌≡◌, ℕ, ℤ, ap, ◌∙◌, refl, arith, to_z, of_z, w32}
use Rattle.std.proofs.lemmas.Int.{ints}
use Rattle.sample_run.specs.Draw.{next_state, drawn}
use Rattle.sample_run.specs.SampleLookup as spec
use Rattle.sample_run.proofs.lookup.next_lookup.Goals as goal

-- a coordinate fits its type
fits : (x : ℤ) (n m : ℕ) → x ≡ spec.coordinate n → n ≡ m → to_z w32 (of_z w32 x) ≡ spec.coordinate m
fits x n m e f = ap (λ (y : ℤ). to_z w32 (of_z w32 y)) (e ∙ ap spec.coordinate f) ∙ whole
  where
    whole : to_z w32 (of_z w32 (spec.coordinate m)) ≡ spec.coordinate m
    whole = omega (arith, ints)

pub returns-clause-value : goal.returns-clause-value
unfolding spec.lookup
returns-clause-value c =
    let z = c.args.draws.now in
    let one : c.draw.new.self ≡ spec.state_behind 1 z = c.draw.ensures.state in
    let two : c.draw-2.new.self ≡ spec.state_behind 2 z =
    c.draw-2.ensures.state ∙ ap next_state one in
    let three : c.draw-3.new.self ≡ spec.state_behind 3 z =
    c.draw-3.ensures.state ∙ ap next_state two in
    let four : c.draw-4.new.self ≡ spec.state_behind 4 z =
    c.draw-4.ensures.state ∙ ap next_state three in
    let five : c.draw-5.new.self ≡ spec.state_behind 5 z =
    c.draw-5.ensures.state ∙ ap next_state four in
    let six : c.draw-6.new.self ≡ spec.state_behind 6 z =
    c.draw-6.ensures.state ∙ ap next_state five in
    let seven : c.draw-7.new.self ≡ spec.state_behind 7 z =
    c.draw-7.ensures.state ∙ ap next_state six in
    let eight : c.draw-file.new.self ≡ spec.state_behind 8 z =
    c.draw-file.ensures.state ∙ ap next_state seven in
    rw (
      fits _ _ (spec.draw_of 1 z) c.coordinate-s.ensures (c.draw.ensures.value ∙ ap drawn one),
      fits _ _ (spec.draw_of 2 z) c.coordinate-t.ensures (c.draw-2.ensures.value ∙ ap drawn two),
      c.draw-3.ensures.value ∙ ap drawn three,
      c.wrap-swrap.ensures ∙ ap spec.wrap (c.draw-4.ensures.value ∙ ap drawn four),
      c.wrap-twrap.ensures ∙ ap spec.wrap (c.draw-5.ensures.value ∙ ap drawn five),
      c.filter-filter.ensures ∙ ap spec.filter (c.draw-6.ensures.value ∙ ap drawn six),
      c.draw-7.ensures.value ∙ ap drawn seven,
      c.draw-file.ensures.value ∙ ap drawn eight,
    ) refl
