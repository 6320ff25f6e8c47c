-- The lock's one colour.
use Rattle.std.proofs.Common.{◌≡◌, ◌<◌, ℕ, List, [], ◌∷◌, length, refl, sym, subst, arith}
use Rattle.std.specs.List.{Contains}
use Rattle.std.proofs.lemmas.List.Elements.{All-cons, All-nil}
use Rattle.log_node.specs.declared.limits.TheConstants.{MAX_COLOURS}
use Rattle.log_node.specs.Sets.{members}
use Rattle.log_node.proofs.CallerLemmas.{members-one}
use Rattle.lawful_run.specs.Asks.{rising}
use Rattle.log_client.specs.declared.store.Store.{Store}
use Rattle.log_client.specs.declared.client.Client.{Client}
use Rattle.log_client.specs.Appends.{AreColoursOf}
use Rattle.log_client.specs.Clients.{IsClient, tracks_of}
use Rattle.log_client.specs.Objects.{HasColoursOf}
use Rattle.log_client.proofs.CallerLemmas.{one_of_store}
use Rattle.region_fold.specs.Reads.{AreOfObject}
use Rattle.example_lock.specs.Desks.{lock_colours, lock_set}

-- it is the client's
pub colours_are : (s : Store) (c : Client) → IsClient s c → 0 < s.size.colours → HasColoursOf c lock_colours
colours_are s c is lt = record {
  some = omega arith;
  within = All-cons (λ (k : ℕ). k < length (tracks_of c)) 0 [] (let long = is.colours in omega (arith, long, lt))
      (All-nil (λ (k : ℕ). k < length (tracks_of c)));
  few = All-cons (λ (k : ℕ). k < MAX_COLOURS) 0 [] (omega arith) (All-nil (λ (k : ℕ). k < MAX_COLOURS));
}

-- the set is of the store
pub set_is : (s : Store) → 0 < s.size.colours → AreColoursOf s lock_set
set_is s lt = one_of_store s 0 lt (omega arith)

rising_is : rising lock_colours ≡ 0 ∷ []
rising_is = refl

-- and of the lock's own colours
pub own_is : AreOfObject lock_colours (members lock_set)
own_is =
    subst (λ (l : List ℕ). AreOfObject lock_colours l) (sym (members-one 0 (omega arith)))
    (λ colour among. subst (λ (l : List ℕ). Contains l colour) (sym rising_is) among)
