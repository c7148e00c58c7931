-- Each variable of a tidy unit has a number below the length of its list of variables.
use Rattle.std.proofs.Common.{All, slice_index_or, ◌≡◌, ℕ, suc, ◌<◌, ◌≤◌, Bool, true, false, cond, nat_lt, nat_eq, List, [], ◌∷◌, length, Some, None, slice_get, flat_map, refl, arith, ltb-true, eqb-true}
use Rattle.std.proofs.lemmas.Option.{slice_get-get_or}
use Rattle.mir_base.specs.declared.instructions.Inst.{Inst}
use Rattle.mir_base.specs.Shapes.{inst_vars, numbered_from, AllBelow, IsTidy}
use Rattle.mir_base.specs.BelowLaws.{all_below_item}

-- the variables that are numbered from n on end at m, and are below it
numbered_case : (x : ℕ) (xs : List ℕ) (n m : ℕ) (b c : Bool) → nat_lt x n ≡ b → nat_eq x n ≡ c → cond b (numbered_from n xs) (cond c (numbered_from (suc n) xs) None) ≡ Some m → ((k : ℕ) → numbered_from k xs ≡ Some m → (k ≤ m) × AllBelow m xs) → (n ≤ m) × AllBelow m (x ∷ xs)
numbered_case x xs n m true c is is' e ih = let r = ih n e in let low : x < n = ltb-true x n is in (r.0, (omega (arith, low, r.0), r.1))
numbered_case x xs n m false true is is' e ih = let r = ih (suc n) e in let same : x ≡ n = eqb-true x n is' in (omega (arith, r.0), (omega (arith, r.0), r.1))
numbered_case x xs n m false false is is' e ih = cc

-- by the case above, variable after variable
numbered : (xs : List ℕ) (n m : ℕ) → numbered_from n xs ≡ Some m → (n ≤ m) × AllBelow m xs
numbered [] n m e = let same : n ≡ m = cc in (omega arith, tt)
numbered (x ∷ xs) n m e = numbered_case x xs n m (nat_lt x n) (nat_eq x n) refl refl e (λ k. numbered xs k m)

-- of one instruction
pub tidy_below : (shared : ℕ) (vars : List (List ℕ)) (body : List Inst) (place : ℕ) (inst : Inst) → IsTidy shared vars body → slice_get body place ≡ Some inst → AllBelow (length vars) (inst_vars inst)
tidy_below shared vars body place inst tidy e = all_below_item inst_vars (length vars) body place inst (numbered (flat_map inst_vars body) shared (length vars) tidy.numbered).1 e

-- of all of them
pub tidy_all_below : (shared : ℕ) (vars : List (List ℕ)) (body : List Inst) → IsTidy shared vars body → All (λ inst. AllBelow (length vars) (inst_vars inst)) body
tidy_all_below shared vars body tidy place d within = tidy_below shared vars body place (slice_index_or body place d) tidy (slice_get-get_or body place d within)
