-- What the kinds tell where two paths meet.
use Rattle.std.proofs.Common.{◌≡◌, ℕ, ℤ, Bool, true, false, not, if◌then◌else◌, nat_eq, Some, None, refl, sym, ap, ◌∙◌, arith}
use Rattle.std.specs.Prelude.{IfSome}
use Rattle.cond_flow.specs.FactLists.{IsJoinedKind}
use Rattle.cond_const.specs.declared.known.Known.TheVariants.{Fixed, Varying}
use Rattle.cond_const.specs.Folding.{decoded_known, fold_rules, varying_kind}
use Rattle.cond_const.specs.States.{is_varying, joined_known}

-- the kind that is answered is that of what is known where the paths meet
pub kinds_meet : (kind other : ℕ) → IfSome (varying_kind kind other) (IsJoinedKind fold_rules decoded_known kind other)
kinds_meet kind other = by (nat_eq kind 0) (nat_eq other 0) refl refl
  where
    by : (a b : Bool) → nat_eq kind 0 ≡ a → nat_eq other 0 ≡ b
        → IfSome (if a then (if b then None else Some 1) else Some kind) (IsJoinedKind fold_rules decoded_known kind other)
    by true true p q = tt
    by true false p q = record {
      joined = λ n m.
          ap (λ t. joined_known (decoded_known kind n) (if t then Fixed m else Varying)) q
          ∙ ap (λ t. joined_known (if t then Fixed n else Varying) Varying) p;
      stays = λ n same.
          let bad : Varying ≡ Fixed n = same ∙ ap (λ t. if t then Fixed n else Varying) p in
          absurd (omega (arith, ap is_varying bad));
    }
    by false b p q = record {
      joined = λ n m.
          ap (λ t. joined_known (if t then Fixed n else Varying) (decoded_known other m)) p
          ∙ sym (ap (λ t. if t then Fixed n else Varying) p);
      stays = λ n same. refl;
    }

-- a kind but that of a constant stands for the same with any number
pub tells_all : (kind : ℕ) → not (nat_eq kind 0) ≡ true → (n m : ℤ) → decoded_known kind n ≡ decoded_known kind m
tells_all kind on n m = by (nat_eq kind 0) on
  where
    by : (nought : Bool) → not nought ≡ true → (if nought then Fixed n else Varying) ≡ (if nought then Fixed m else Varying)
    by true on = absurd (let bad : false ≡ true = on in cc)
    by false on = refl
