-- Appends of objects, as the client's own append leaves them.
use Rattle.std.proofs.Common.{◌≡◌, ◌⊎◌, inl, inr, ℕ, List, map, None, Option, Ok, Err, Result, IfOk, IfErr, refl, subst}
use Rattle.log_node.specs.declared.ids.Colours.{Colours}
use Rattle.log_node.specs.Sets.{members}
use Rattle.append_core.specs.declared.stood.Point.{Point}
use Rattle.append_core.specs.declared.several.MultiFault.{MultiFault}
use Rattle.append_core.specs.declared.several.MultiFault.TheVariants as faults
use Rattle.log_client.specs.declared.store.Store.{Store}
use Rattle.log_client.specs.declared.client.Client.{Client}
use Rattle.log_client.specs.declared.answers.Appended.{Appended}
use Rattle.log_client.specs.declared.object_fault.ObjectFault.{ObjectFault}
use Rattle.log_client.specs.declared.object_fault.ObjectFault.TheVariants as object_faults
use Rattle.log_client.specs.Fits.{HaveGoneOn}
use Rattle.log_client.specs.Clients.{IsClient, Finished, holds_of}
use Rattle.log_client.specs.Growing.{HasGrown}
use Rattle.log_client.specs.Calls.{IsExplained, IsSame}
use Rattle.log_client.specs.Appends.{AppendsAs, AppendRefused, AppendStopped}
use Rattle.log_client.specs.Reading.{RestsOn}
use Rattle.log_client.specs.Objects.{PutRefused, StandsIn, StandsNot}

module _ (s : Store) (c d : Client) (is : IsClient s d) (same : IsSame c d) (goes : HaveGoneOn (holds_of c) (holds_of d))
    (grown : HasGrown c d) where
  -- it stands
  pub append_stood : (a : Appended) → (Finished c → Finished d ⊎ AppendStopped (Ok a)) → RestsOn s c d
  append_stood a finished = record {
    client = is;
    same = same;
    goes = goes;
    grows = grown;
    finished = λ f. elim (finished f) [
      | inl done ↦ done
      | inr stopped ↦ absurd (let e : Ok a ≡ Err (faults.Stopped stopped.0) = stopped.2 in let f : ⊥ = cc (e) in f)
    ];
  }

  -- it was refused, and no stop was asked
  pub append_left : (set : Colours) (text : List ℕ) (fault : MultiFault)
      → (Finished c → Finished d ⊎ AppendStopped (Err fault)) → AppendRefused s c d set text None fault → RestsOn s c d
  append_left set text fault finished why = record {
    client = is;
    same = same;
    goes = goes;
    grows = grown;
    finished = λ f. elim (finished f) [
      | inl done ↦ done
      | inr stopped ↦ absurd (none_asked stopped.0 (let e = stopped.2 in
          let f : fault ≡ faults.Stopped stopped.0 = cc (e) in f))
    ];
  } where
    none_asked : (steps : ℕ) → fault ≡ faults.Stopped steps → ⊥
    none_asked steps e =
        let asked = (subst (AppendRefused s c d set text None) e why).0 in
        let f : ⊥ = cc (asked) in f

  pub stands_in : (set : Colours) (text wanted : List ℕ) (a : Appended) → text ≡ wanted
      → IsExplained s c d (AppendsAs set text a) → map (λ (p : Point). p.colour) a.stood.points ≡ members set
      → StandsIn s c d (members set) wanted a
  stands_in set text wanted a is_text e points = record {
    set = set;
    members_are = refl;
    explained = subst (λ (t : List ℕ). IsExplained s c d (AppendsAs set t a)) is_text e;
    points = points;
  }

-- the colours of a set of one
pub stands_in_one : (s : Store) (c d : Client) (colours wanted text : List ℕ) (r : Result Appended ObjectFault)
    → colours ≡ wanted → IfOk r (StandsIn s c d colours text) → IfOk r (StandsIn s c d wanted text)
stands_in_one s c d colours wanted text r is ok = subst (λ (l : List ℕ). IfOk r (StandsIn s c d l text)) is ok

pub stands_not_one : (s : Store) (c d : Client) (colours wanted text : List ℕ) (r : Result Appended ObjectFault)
    → colours ≡ wanted → IfErr r (StandsNot s c d colours text) → IfErr r (StandsNot s c d wanted text)
stands_not_one s c d colours wanted text r is err = subst (λ (l : List ℕ). IfErr r (StandsNot s c d l text)) is err

-- an object's append that was refused
refused : (home : Option ℕ) (s : Store) (c d : Client) (colours text : List ℕ) (fault : ObjectFault)
    → StandsNot s c d colours text fault → PutRefused home s c d colours text fault
refused home s c d colours text (object_faults.NotHome shown) why = absurd why
refused home s c d colours text (object_faults.Append fault) why = why
refused home s c d colours text (object_faults.Sync fault) why = absurd why
refused home s c d colours text (object_faults.Unread stamp fault) why = absurd why
refused home s c d colours text object_faults.NoTx why = absurd why
refused home s c d colours text object_faults.NoMemory why = why

pub put_refused : (home : Option ℕ) (s : Store) (c d : Client) (colours text wanted : List ℕ)
    (r : Result Appended ObjectFault) → text ≡ wanted → IfErr r (StandsNot s c d colours text)
    → IfErr r (PutRefused home s c d colours wanted)
put_refused home s c d colours text wanted (Ok a) same err = err
put_refused home s c d colours text wanted (Err fault) same err =
    subst (λ (t : List ℕ). PutRefused home s c d colours t fault) same (refused home s c d colours text fault err)
