-- An append by which nothing was done: what its answer says.
use Rattle.std.proofs.Common.{◌≡◌, inl, ℕ, List, [], ◌∷◌, length, Some, Option, Err, refl, ap, sym, subst, ◌∙◌, arith}
use Rattle.std.proofs.lemmas.Option.{same_Some}
use Rattle.log_node.specs.declared.ids.Colours.{Colours}
use Rattle.log_node.specs.Sets.{members}
use Rattle.append_core.specs.declared.several.MultiFault.{MultiFault}
use Rattle.append_core.specs.declared.several.MultiFault.TheVariants as faults
use Rattle.chain_store.specs.declared.hold.Hold.{Hold}
use Rattle.lawful_run.specs.Stops.{stopped_at_once}
use Rattle.log_client.specs.declared.store.Store.{Store}
use Rattle.log_client.specs.declared.client.Client.{Client}
use Rattle.log_client.specs.Fits.{HasGoneOn, HaveGoneOn}
use Rattle.log_client.specs.Clients.{holds_of, IsClient}
use Rattle.log_client.specs.Calls.{DidNothing}
use Rattle.log_client.specs.Appends.{AppendRefused, HasNoRow}
use Rattle.log_client.specs.Inside.{CallsAppend}
use Rattle.log_client.proofs.Going.AtHome.{gone_same}
use Rattle.log_client.proofs.Going.Growing.{grown_same}

-- the holds are as they were
pub goes_same_holds : (hs : List Hold) → HaveGoneOn hs hs
goes_same_holds hs =
    (refl, λ n g h at to. subst (λ (z : Hold). HasGoneOn g z) (same_Some g h (sym at ∙ to)) (gone_same g))

-- one colour takes no row
pub one_takes_none : (s : Store) (c : Client) (colours : Colours) (k : ℕ) (stop : Option ℕ) (used : ℕ)
    → members colours ≡ k ∷ [] → HasNoRow s c colours stop used → ⊥
one_takes_none s c colours k stop used one none =
    let two = none.several in
    let many = ap length one in
    omega (arith, two, many)

-- memory was refused, and nothing was done
pub finds_nothing : (s : Store) (c d : Client) (colours : Colours) (text : List ℕ) (stop : Option ℕ) → DidNothing s c d
    → AppendRefused s c d colours text stop faults.NoMemory
finds_nothing s c d colours text stop nothing objects kept finished keeps =
    let e = nothing objects kept finished keeps in
    (e.0, e.1, λ rest fits. inl (e.2 rest fits))

module _ (s : Store) (c : Client) (colours : Colours) (text : List ℕ) (stop : Option ℕ) (is : IsClient s c) where
  stays : (fault : MultiFault) → AppendRefused s c c colours text stop fault
      → ((used : ℕ) → (fault ≡ faults.Full used → HasNoRow s c colours stop used)
      × (HasNoRow s c colours stop used → fault ≡ faults.Full used))
      → CallsAppend s c c colours text stop (Err fault)
  stays fault why full = record {
    client = is;
    same = (refl, refl);
    goes = goes_same_holds (holds_of c);
    grows = grown_same c c refl;
    plays = refl;
    finished = λ finished. inl finished;
    idle = λ stops helps. helps;
    answer = why;
    points = tt;
    full = λ used. (λ e. (full used).0 (cc (e)), λ none. ap Err ((full used).1 none));
  }

  pub no_memory_stays : ((used : ℕ) → HasNoRow s c colours stop used → ⊥)
      → CallsAppend s c c colours text stop (Err faults.NoMemory)
  no_memory_stays room =
      stays faults.NoMemory
      (finds_nothing s c c colours text stop (λ objects kept finished keeps. (kept, keeps, λ rest fits. refl)))
      (λ used. (λ e. absurd (let f : ⊥ = cc (e) in f), λ none. absurd (room used none)))

  -- no row is left
  pub full_stays : (used : ℕ) → HasNoRow s c colours stop used → CallsAppend s c c colours text stop (Err (faults.Full used))
  full_stays used none =
      stays (faults.Full used) (
        refl,
        λ objects kept finished keeps. (
          kept,
          keeps,
          λ rest fits. (record { several = none.several; shown = none.shown ∙ sym keeps.rows; all = keeps.rows ∙ none.all }, refl),
        ),
      )
      (λ other. (
        λ e. subst (HasNoRow s c colours stop) (let same : used ≡ other = cc (e) in same) none,
        λ too. ap faults.Full (none.shown ∙ sym too.shown),
      ))

  -- a stop before the first step
  pub stopped_stays : stop ≡ Some 0 → CallsAppend s c c colours text stop (Err (faults.Stopped 0))
  stopped_stays asked =
      stays (faults.Stopped 0)
      (asked, λ objects kept finished keeps. (kept, keeps, λ rest fits. stopped_at_once))
      (λ used. (λ e. absurd (let f : ⊥ = cc (e) in f), λ none. absurd (none.not_at_once asked)))
