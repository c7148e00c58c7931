-- The insertions that are found, in order and once each, are those of the graph.
use Rattle.std.proofs.Common.{◌≡◌, ℕ, zero, suc, ◌+◌, ◌<◌, ◌≤◌, if◌then◌else◌, List, [], ◌∷◌, length, slice_get, Some, refl, sym, ap, inl, inr, ◌∙◌, subst, arith}
use Rattle.std.proofs.lemmas.Bool.{cases_eq, eq-eqb, ne_eqb}
use Rattle.std.proofs.lemmas.Option.{none-some, same_Some, slice_get-get_or}
use Rattle.mir_base.specs.declared.instructions.Rhs.{Rhs}
use Rattle.flow_graph.specs.Graphs.{GraphShape, IsGraph}
use Rattle.sink_code.specs.Sinking.{put_for}
use Rattle.sink_code.specs.declared.inserting.PutBefore.{PutBefore}
use Rattle.sink_code.specs.Delaying.{IsInsertedAt}
use Rattle.sink_code.specs.FoundPuts.{AreFoundPuts, AreOnce}
use Rattle.sink_code.specs.PutLaws.{put_first, put_later, put_rest}
use Rattle.sink_code.specs.Puts.{ArePutsOf}
use Rattle.sink_code.specs.SunkGraphs.{RisesFrom}
use Rattle.sink_code.specs.DelayLaws.{one_delayed}
use Rattle.sink_code.proofs.Seam.{AllBefore, AscendFrom, ascend_from, in_parts, insertion_of, puts_before, rises_before}

-- those before a node, where the first of the list is not before it
other_first : (n : ℕ) (put : PutBefore) (puts : List PutBefore) → (put.node ≡ n → ⊥) → puts_before n (put ∷ puts) ≡ puts_before n puts
other_first n put puts differ = ap (λ b. if b then insertion_of put ∷ puts_before n puts else puts_before n puts) (ne_eqb put.node n differ)

-- and where it is
this_first : (n : ℕ) (put : PutBefore) (puts : List PutBefore) → put.node ≡ n → puts_before n (put ∷ puts) ≡ insertion_of put ∷ puts_before n puts
this_first n put puts same = ap (λ b. if b then insertion_of put ∷ puts_before n puts else puts_before n puts) (eq-eqb put.node n same)

-- the variables of those before any node rise
pub rises_at : (n node var : ℕ) (puts : List PutBefore) → AscendFrom node var puts → RisesFrom 0 (puts_before n puts)
rises_at n node var [] up = tt
rises_at n node var (put ∷ puts) up =
    let rest = rises_at n put.node (suc put.var) puts up.1 in
    elim (cases_eq put.node n) [
      | inl same ↦
          let later : RisesFrom (suc put.var) (puts_before n puts) = rises_before n (suc put.var) puts (subst (λ k. AscendFrom k (suc put.var) puts) same up.1) in
          let all : RisesFrom 0 (insertion_of put ∷ puts_before n puts) = (omega arith, later) in
          subst (RisesFrom 0) (sym (this_first n put puts same)) all
      | inr differ ↦ subst (RisesFrom 0) (sym (other_first n put puts differ)) rest
    ]

-- what is put for a variable before a node stands in the list
pub put_in : (n x : ℕ) (t : Rhs) (puts : List PutBefore) → put_for (puts_before n puts) x ≡ Some t → (i : ℕ) × (slice_get puts i ≡ Some (record { node = n; var = x; rhs = t }))
put_in n x t [] is = absurd (none-some t is)
put_in n x t (put ∷ puts) is = elim (cases_eq put.node n) [
  | inl same ↦
      let first = ap (λ l. put_for l x) (sym (this_first n put puts same)) ∙ is in
      elim (cases_eq x put.var) [
        | inl var ↦
            let here : put.rhs ≡ t = same_Some put.rhs t (sym (put_first (insertion_of put) (puts_before n puts)) ∙ ap (λ y. put_for (insertion_of put ∷ puts_before n puts) y) (sym var) ∙ first) in
            (0, ap Some (ap (λ k. record { node = k; var = put.var; rhs = put.rhs }) same ∙ ap (λ y. record { node = n; var = y; rhs = put.rhs }) (sym var) ∙ ap (λ r. record { node = n; var = x; rhs = r }) here))
        | inr differ ↦ (let rest = put_in n x t puts (sym (put_rest (insertion_of put) (puts_before n puts) x differ) ∙ first) in (suc rest.0, rest.1))
      ]
  | inr differ ↦ (let rest = put_in n x t puts (ap (λ l. put_for l x) (sym (other_first n put puts differ)) ∙ is) in (suc rest.0, rest.1))
]

-- and what stands in it is put
pub in_put : (node var i : ℕ) (put : PutBefore) (puts : List PutBefore) → AscendFrom node var puts → slice_get puts i ≡ Some put → put_for (puts_before put.node puts) put.var ≡ Some put.rhs
in_put node var i put [] up e = cc
in_put node var zero put (first ∷ puts) up e =
    let same : first ≡ put = cc in
    ap (λ l. put_for l put.var) (this_first put.node first puts (ap (λ (p : PutBefore). p.node) same))
    ∙ ap (λ (p : PutBefore). put_for (insertion_of p ∷ puts_before put.node puts) put.var) same
    ∙ put_first (insertion_of put) (puts_before put.node puts)
in_put node var (suc i) put (first ∷ puts) up e =
    let rest = in_put first.node (suc first.var) i put puts up.1 e in
    elim (cases_eq first.node put.node) [
      | inl same ↦
          let later : RisesFrom (suc first.var) (puts_before put.node puts) = rises_before put.node (suc first.var) puts (subst (λ k. AscendFrom k (suc first.var) puts) same up.1) in
          ap (λ l. put_for l put.var) (this_first put.node first puts same) ∙ put_later (insertion_of first) (puts_before put.node puts) put.var put.rhs later rest
      | inr differ ↦ ap (λ l. put_for l put.var) (other_first put.node first puts differ) ∙ rest
    ]

-- what holds of each item holds of all
all_before : (end : ℕ) (puts : List PutBefore) → ((i : ℕ) (put : PutBefore) → slice_get puts i ≡ Some put → put.node < end) → AllBefore end puts
all_before end [] each = tt
all_before end (put ∷ puts) each = (each 0 put refl, all_before end puts (λ i p e. each (suc i) p e))

-- before no node past those of the list is one put
none_past : (end n : ℕ) (puts : List PutBefore) → end ≤ n → AllBefore end puts → puts_before n puts ≡ []
none_past end n [] le below = refl
none_past end n (put ∷ puts) le below = other_first n put puts (λ same. (let lt = below.0 in omega (arith, same, le, lt))) ∙ none_past end n puts le below.1

module _ (graph : GraphShape) (is_graph : IsGraph graph.vars graph.received graph.nodes) (puts once : List PutBefore) (found : AreFoundPuts graph puts) (ordered : AreOnce puts once) where
  -- each is an insertion of the graph
  each_once : (i : ℕ) (put : PutBefore) → slice_get once i ≡ Some put → (put.node < length graph.nodes) × IsInsertedAt graph put.var put.rhs put.node
  each_once i put e =
      let there = ordered.among i put e in
      found.sound there.0 put (slice_get-get_or puts there.0 put there.1 ∙ ap Some there.2)

  -- and each insertion of the graph is one
  inserted_once : (n x : ℕ) (t : Rhs) → n < length graph.nodes → IsInsertedAt graph x t n → put_for (puts_before n once) x ≡ Some t
  inserted_once n x t lt is =
      let put : PutBefore = record { node = n; var = x; rhs = t } in
      let there = found.complete n x t lt is in
      let kept = ordered.all there.0 put (slice_get-get_or puts there.0 put there.1 ∙ ap Some there.2) in
      let other = kept.1 in
      let node : other.node ≡ n = kept.3 in
      let var : other.var ≡ x = kept.4 in
      let inserted : IsInsertedAt graph x other.rhs n = subst (λ k. IsInsertedAt graph x other.rhs k) node (subst (λ y. IsInsertedAt graph y other.rhs other.node) var (each_once kept.0 other kept.2).1) in
      let same : other.rhs ≡ t = one_delayed graph is_graph n x other.rhs t lt inserted.0 is.0 in
      let put_is : put_for (puts_before other.node once) other.var ≡ Some other.rhs = in_put 0 0 kept.0 other once (ascend_from once ordered.ascend) kept.2 in
      ap (λ k. put_for (puts_before k once) x) (sym node) ∙ ap (put_for (puts_before other.node once)) (sym var) ∙ put_is ∙ ap Some same

  -- so they are the insertions of the graph, in order of the nodes
  pub once_puts : ArePutsOf graph once
  once_puts =
      let up = ascend_from once ordered.ascend in
      let below = all_before (length graph.nodes) once (λ i put e. (each_once i put e).0) in
      record {
        delayed = found.delayed;
        inserts = λ n. puts_before n once;
        insertions = record {
          delayed_are = found.delayed_are;
          inserts_are = λ n lt. record {
            exact = λ x t. (
              (λ put. (let there = put_in n x t once put in (each_once there.0 (record { node = n; var = x; rhs = t }) there.1).1)),
              λ is. inserted_once n x t lt is,
            );
            in_order = rises_at n 0 0 once up;
          };
          none_past = λ n le. none_past (length graph.nodes) n once le below;
        };
        are = in_parts (length graph.nodes) 0 0 once up (subst (λ k. AllBefore k once) (let same : length graph.nodes ≡ 0 + length graph.nodes = omega arith in same) below);
      }
