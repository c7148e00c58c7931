-- The globals come first among the variables that are seen, and keep their numbers.
use Rattle.std.proofs.Common.{◌≡◌, ℕ, zero, suc, ◌+◌, ◌<◌, ◌≤◌, true, false, cond, ◌||◌, List, [], ◌++◌, map, length, take, slice_index_or, Some, refl, sym, ap, ◌∙◌, subst, arith, zero-add}
use Rattle.std.specs.List.{range_with_len}
use Rattle.std.proofs.lemmas.Bool.{eq-eqb, ne_eqb}
use Rattle.std.proofs.lemmas.Option.{slice_get-get_or}
use Rattle.std.proofs.lemmas.List.{get_or-take, length-take-le, length-map, map-append, take-append-le}
use Rattle.std.proofs.lemmas.List.FromFn.{get_or-range_with_len, length-range_with_len}
use Rattle.std.proofs.Math.Seq.{take-length}
use Rattle.mir_base.specs.Frames.{shared_vars}
use Rattle.mir_base.specs.Shapes.{AllDiffer}
use Rattle.flow_graph.specs.MachineLaws.{map_range}
use Rattle.flow_graph.specs.Numbering.{first_index, is_in}

-- a number stands among those from a on where it is one of them
range_holds : (n a i : ℕ) (more : List ℕ) → i < n → is_in (a + i) (range_with_len a n ++ more) ≡ true
range_holds zero a i more lt = absurd (omega (arith, lt))
range_holds (suc n) a zero more lt = ap (λ b. b || is_in (a + 0) (range_with_len (a + 1) n ++ more)) (eq-eqb a (a + 0) (let same : a ≡ a + 0 = omega arith in same))
range_holds (suc n) a (suc i) more lt =
    let later = ap (λ k. is_in k (range_with_len (a + 1) n ++ more)) (let same : a + suc i ≡ a + 1 + i = omega arith in same) ∙ range_holds n (a + 1) i more (omega (arith, lt)) in
    ap (λ b. b || is_in (a + suc i) (range_with_len (a + 1) n ++ more)) (ne_eqb a (a + suc i) (λ e. omega (arith, e))) ∙ later

-- and it stands at its own place
range_index : (n a i : ℕ) (more : List ℕ) → i < n → first_index (range_with_len a n ++ more) (a + i) ≡ i
range_index zero a i more lt = absurd (omega (arith, lt))
range_index (suc n) a zero more lt = ap (λ b. cond b 0 (suc (first_index (range_with_len (a + 1) n ++ more) (a + 0)))) (eq-eqb a (a + 0) (let same : a ≡ a + 0 = omega arith in same))
range_index (suc n) a (suc i) more lt =
    let later = ap (first_index (range_with_len (a + 1) n ++ more)) (let same : a + suc i ≡ a + 1 + i = omega arith in same) ∙ range_index n (a + 1) i more (omega (arith, lt)) in
    ap (λ b. cond b 0 (suc (first_index (range_with_len (a + 1) n ++ more) (a + suc i)))) (ne_eqb a (a + suc i) (λ e. omega (arith, e))) ∙ ap suc later

-- a number that is at least their count from a on is none of them
range_misses : (n a x : ℕ) → a + n ≤ x → is_in x (range_with_len a n) ≡ false
range_misses zero a x le = refl
range_misses (suc n) a x le = ap (λ b. b || is_in x (range_with_len (a + 1) n)) (ne_eqb a x (λ e. omega (arith, e, le))) ∙ range_misses n (a + 1) x (omega (arith, le))

-- ---- of the globals

-- each global is one of them
pub shared_in : (shared x : ℕ) (more : List ℕ) → x < shared → is_in x (shared_vars shared ++ more) ≡ true
shared_in shared x more lt = ap (λ k. is_in k (shared_vars shared ++ more)) (sym (zero-add x)) ∙ range_holds shared 0 x more lt

-- and stands at its own number
pub shared_index : (shared x : ℕ) (more : List ℕ) → x < shared → first_index (shared_vars shared ++ more) x ≡ x
shared_index shared x more lt = ap (first_index (shared_vars shared ++ more)) (sym (zero-add x)) ∙ range_index shared 0 x more lt

-- how many globals there are is not the number of one of them, since these are counted from 0
pub shared_misses : (shared : ℕ) → is_in shared (shared_vars shared) ≡ false
shared_misses shared = range_misses shared 0 shared (omega arith)

-- the list of the globals has as many entries as there are globals
pub shared_count : (shared : ℕ) → length (shared_vars shared) ≡ shared
shared_count shared = length-range_with_len 0 shared

-- they are distinct
pub shared_differ : (shared : ℕ) → AllDiffer (shared_vars shared)
shared_differ shared i j li lj e =
    let long = shared_count shared in
    let a = slice_get-get_or (shared_vars shared) i 0 li in
    let b = slice_get-get_or (shared_vars shared) j 0 lj in
    let both : Some (slice_index_or (shared_vars shared) i 0) ≡ Some (slice_index_or (shared_vars shared) j 0) = sym a ∙ e ∙ b in
    let same : slice_index_or (shared_vars shared) i 0 ≡ slice_index_or (shared_vars shared) j 0 = cc in
    omega (arith, same, get_or-range_with_len 0 shared i 0 (omega (arith, li, long)), get_or-range_with_len 0 shared j 0 (omega (arith, lj, long)))

-- their names are the first ones
pub shared_names : (shared : ℕ) (vars : List (List ℕ)) (more : List ℕ) → shared ≤ length vars → take shared (map (λ x. slice_index_or vars x []) (shared_vars shared ++ more)) ≡ take shared vars
shared_names shared vars more le =
    let name : (ℕ → List ℕ) = λ x. slice_index_or vars x [] in
    let long : length (map name (shared_vars shared)) ≡ shared = length-map (shared_vars shared) name ∙ shared_count shared in
    let first : map name (shared_vars shared) ≡ take shared vars =
    subst (λ n. map name (range_with_len 0 n) ≡ take shared vars) (length-take-le shared vars le) (map_range [] name 0 (take shared vars) (λ i lt. ap name (zero-add i) ∙ sym (get_or-take shared vars i [] (omega (arith, lt, length-take-le shared vars le))))) in
    ap (take shared) (map-append name (shared_vars shared) more)
    ∙ take-append-le shared (map name (shared_vars shared)) (map name more) (omega (arith, long))
    ∙ ap (λ n. take n (map name (shared_vars shared))) (sym long)
    ∙ take-length (map name (shared_vars shared))
    ∙ first
