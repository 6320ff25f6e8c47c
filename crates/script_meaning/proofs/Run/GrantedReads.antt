-- A stamped read: the steps that it takes, and that it is the same with memory granted everywhere.
use Rattle.std.proofs.Common.{◌≡◌, ℕ, List, [], ◌∷◌, Option, Some, None, refl, ap, sym, ◌∙◌}
use Rattle.col_core.proofs.CallerLemmas.{choice}
use Rattle.world_laws.specs.declared.steps.Step.TheVariants.{Raise, Play, Seen}
use Rattle.world_laws.specs.Worlds.{World, home_of, after, may_play}
use Rattle.script_meaning.specs.States.{Grants, all_granted}
use Rattle.script_meaning.specs.Helping.{all_cleared}
use Rattle.script_meaning.specs.Stamped.{Progress, raised, played, read_stamp, key_above, ReadEnd, Whole, Refused, Unraised, read_after_plays, read_after_raises, stamped_read}
use Rattle.script_meaning.proofs.Run.GrantedSteps.{IsClean, RunsTo, stays_there, runs_on, clean_from, clears_run, clears_exact}

-- THE STEPS

raises_run : (grants : Grants) (u stamp : ℕ) (w : World) (colours : List ℕ)
    → RunsTo w (raised grants u stamp w colours).world
raises_run grants u stamp w [] = stays_there w
raises_run grants u stamp w (c ∷ colours) =
    let w1 = after w (Raise u (home_of w u) c stamp) in
    choice (λ (p : Progress). RunsTo w p.world) (grants.raises c) (raised grants u stamp w1 colours)
    (record { world = w; stopped = Some c })
    (λ _. runs_on w w1 (raised grants u stamp w1 colours).world
    (record { steps = Raise u (home_of w u) c stamp ∷ []; run = refl }) (raises_run grants u stamp w1 colours))
    (λ _. stays_there w)

plays_run : (u : ℕ) (w : World) (colours : List ℕ) → RunsTo w (played u w colours).world
plays_run u w [] = stays_there w
plays_run u w (c ∷ colours) =
    let w1 = after w (Play u c) in
    choice (λ (p : Progress). RunsTo w p.world) (may_play w u c) (played u w1 colours)
    (record { world = w; stopped = Some c })
    (λ _. runs_on w w1 (played u w1 colours).world (record { steps = Play u c ∷ []; run = refl })
    (plays_run u w1 colours))
    (λ _. stays_there w)

end_runs : (u : ℕ) (colours : List ℕ) (first clear last : World) (o : Option ℕ)
    → RunsTo last (read_after_plays u colours first clear last o).world
end_runs u colours first clear last None =
    record { steps = Seen u (read_stamp first u colours) ∷ []; run = refl }
end_runs u colours first clear last (Some c) = stays_there last

-- from the raises on
rest_runs : (grants : Grants) (u : ℕ) (colours : List ℕ) (first last : World) (o : Option ℕ)
    → RunsTo last (read_after_raises grants u colours first last o).world
rest_runs grants u colours first last None =
    let clear = all_cleared grants u (key_above (read_stamp first u colours)) colours last in
    let p = played u clear colours in
    runs_on last clear (read_after_plays u colours first clear p.world p.stopped).world
    (clears_run grants u (key_above (read_stamp first u colours)) colours last)
    (runs_on clear p.world (read_after_plays u colours first clear p.world p.stopped).world
    (plays_run u clear colours) (end_runs u colours first clear p.world p.stopped))
rest_runs grants u colours first last (Some c) = stays_there last

pub read_runs : (grants : Grants) (w : World) (u : ℕ) (colours : List ℕ)
    → RunsTo w (stamped_read grants w u colours).world
read_runs grants w u colours =
    let p = raised grants u (read_stamp w u colours) w colours in
    runs_on w p.world (read_after_raises grants u colours w p.world p.stopped).world
    (raises_run grants u (read_stamp w u colours) w colours) (rest_runs grants u colours w p.world p.stopped)

-- THE SAME WITH MEMORY GRANTED EVERYWHERE

-- with memory granted everywhere each colour is raised
all_raised : (u stamp : ℕ) (w : World) (c : ℕ) (colours : List ℕ)
    → raised all_granted u stamp w (c ∷ colours)
    ≡ raised all_granted u stamp (after w (Raise u (home_of w u) c stamp)) colours
all_raised u stamp w c colours = refl

raises_exact : (grants : Grants) (u stamp : ℕ) (w : World) (colours : List ℕ)
    → (raised grants u stamp w colours).stopped ≡ None
    → raised grants u stamp w colours ≡ raised all_granted u stamp w colours
raises_exact grants u stamp w [] all = refl
raises_exact grants u stamp w (c ∷ colours) all =
    let w1 = after w (Raise u (home_of w u) c stamp) in
    choice (λ (p : Progress). p.stopped ≡ None → p ≡ raised all_granted u stamp w (c ∷ colours)) (grants.raises c)
    (raised grants u stamp w1 colours) (record { world = w; stopped = Some c })
    (λ _ more. raises_exact grants u stamp w1 colours more ∙ sym (all_raised u stamp w c colours))
    (λ _ none. absurd (let f : ⊥ = cc in f)) all

-- the read raised all its columns
abbrev pub IsRaised : ReadEnd → Type 0
IsRaised (Whole stamp raises syncs keys) = Unit {0}
IsRaised (Refused colour base) = Unit {0}
IsRaised Unraised = ⊥

rest_exact : (grants : Grants) (u : ℕ) (colours : List ℕ) (first last : World) (o : Option ℕ)
    → IsClean (read_after_raises grants u colours first last o).world
    → IsRaised (read_after_raises grants u colours first last o).ends
    → (o ≡ None) × (read_after_raises grants u colours first last o
    ≡ read_after_raises all_granted u colours first last None)
rest_exact grants u colours first last None clean is =
    let key = key_above (read_stamp first u colours) in
    let clear = all_cleared grants u key colours last in
    let p = played u clear colours in
    let end = read_after_plays u colours first clear p.world p.stopped in
    let same = clears_exact grants u key colours last (clean_from clear end.world
    (runs_on clear p.world end.world (plays_run u clear colours) (end_runs u colours first clear p.world p.stopped))
    clean) in (
      refl,
      ap (λ (x : World). read_after_plays u colours first x (played u x colours).world (played u x colours).stopped)
          same,
    )
rest_exact grants u colours first last (Some c) clean is = absurd is

pub read_exact : (grants : Grants) (w : World) (u : ℕ) (colours : List ℕ)
    → IsClean (stamped_read grants w u colours).world → IsRaised (stamped_read grants w u colours).ends
    → stamped_read grants w u colours ≡ stamped_read all_granted w u colours
read_exact grants w u colours clean is =
    let stamp = read_stamp w u colours in
    let p = raised grants u stamp w colours in
    let rest = rest_exact grants u colours w p.world p.stopped clean is in
    let same = raises_exact grants u stamp w colours rest.0 in
    rest.1
    ∙ (ap (λ (x : World). read_after_raises all_granted u colours w x None) (ap (λ (q : Progress). q.world) same)
    ∙ ap (λ (o : Option ℕ). read_after_raises all_granted u colours w (raised all_granted u stamp w colours).world o)
    (sym (sym (ap (λ (q : Progress). q.stopped) same) ∙ rest.0)))
