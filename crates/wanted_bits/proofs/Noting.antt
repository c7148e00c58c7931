-- What is noted of the nodes of a block, one after the other from the last, and of all blocks.
use Rattle.std.proofs.Common.{◌≡◌, ◌≢◌, ◌⊎◌, ℕ, suc, ◌+◌, ◌-◌, ◌<◌, ◌≤◌, inl, inr, List, drop, length, slice_get, slice_index_or, slice_set, Option, Some, None, option_map, refl, sym, ap, ◌∙◌, subst, arith}
use Rattle.std.proofs.lemmas.Bool.{cases_eq, cases_lt}
use Rattle.std.proofs.lemmas.List.{get_or_past, get_or-set_other, get_or-set_same, length-set}
use Rattle.std.proofs.lemmas.Option.{slice_get-get_or, slice_get_within}
use Rattle.flow_graph.specs.declared.nodes.Node.{Node}
use Rattle.flow_graph.specs.declared.nodes.Node.TheVariants.{Start, Skip, Assign, Print, Guard, Call, Test, Return}
use Rattle.flow_graph.specs.Blocks.{IsBlock, IsBlocks}
use Rattle.flow_graph.specs.BlockLaws.{chain_within, edge_within, one_block, one_place}
use Rattle.flow_graph.specs.Graphs.{GraphShape}
use Rattle.flow_graph.specs.NumberTables.{number_at}
use Rattle.wanted_bits.specs.declared.picking.Shift.{Shift}
use Rattle.wanted_bits.specs.BitsOrder.{HasFew}
use Rattle.wanted_bits.specs.Found.{AreListed, NotesFrom, behind_bits, narrowed_by}
use Rattle.wanted_bits.specs.Narrowed.{narrowed_node}
use Rattle.wanted_bits.specs.Wanted.{Asked}
use Rattle.wanted_bits.specs.Walking.{AreGraphNodes, HaveBacks, back_in, back_of, before_list, bits_past, bits_through}
use Rattle.wanted_bits.proofs.LeastNumbers.{drop_some}

module _ {A : Type 0} (note : ℕ → Option Node → List ℕ → A) (blank : A) (graph : GraphShape) (asked : Asked) (back : ℕ → Option Shift) (list bits : List ℕ) (old : List A) where
  -- of no node yet
  pub notes_none : (place : ℕ) → length list ≤ place → NotesFrom note blank graph asked back list bits place old old
  notes_none place end = record {
    long = refl;
    noted = λ i n le at. absurd (omega (arith, slice_get_within list i n at, le, end));
    others = λ n. inr refl;
  }

  -- of one node more
  pub notes_more : (i n : ℕ) (k : A) (so_far new : List A) → IsBlock graph.nodes list → slice_get list i ≡ Some n → NotesFrom note blank graph asked back list bits (suc i) old so_far → new ≡ slice_set so_far n k → n < length so_far
      → k ≡ note n (slice_get graph.nodes n) (before_list graph asked back (drop (suc i) list) bits) → NotesFrom note blank graph asked back list bits i old new
  notes_more i n k so_far new block at before put lt is = record {
    long = ap length put ∙ length-set so_far n k ∙ before.long;
    noted = λ j m le here_at. elim (cases_eq j i) as (λ _. slice_index_or new m blank ≡ note m (slice_get graph.nodes m) (before_list graph asked back (drop (suc j) list) bits)) [
      | inl e ↦ (let same : n ≡ m = one_item j m e here_at in subst (λ y. slice_index_or new y blank ≡ note y (slice_get graph.nodes y) (before_list graph asked back (drop (suc j) list) bits)) same (subst (λ p. slice_index_or new n blank ≡ note n (slice_get graph.nodes n) (before_list graph asked back (drop (suc p) list) bits)) (sym e) (here ∙ is)))
      | inr ne ↦ there m (λ same. ne (one_place graph.nodes list j i m block here_at (at ∙ ap Some (sym same)))) ∙ before.noted j m (omega (arith, le, ne)) here_at
    ];
    others = λ m. elim (cases_eq m n) as (λ _. ((j : ℕ) × (slice_get list j ≡ Some m)) ⊎ (slice_index_or new m blank ≡ slice_index_or old m blank)) [
      | inl e ↦ inl (i, at ∙ ap Some (sym e))
      | inr ne ↦ elim (before.others m) as (λ _. ((j : ℕ) × (slice_get list j ≡ Some m)) ⊎ (slice_index_or new m blank ≡ slice_index_or old m blank)) [
        | inl some ↦ inl some
        | inr same ↦ inr (there m ne ∙ same)
      ]
    ];
  }
    where
      here : slice_index_or new n blank ≡ k
      here = ap (λ (l : List A). slice_index_or l n blank) put ∙ get_or-set_same so_far n k blank lt

      there : (m : ℕ) → m ≢ n → slice_index_or new m blank ≡ slice_index_or so_far m blank
      there m ne = ap (λ (l : List A). slice_index_or l m blank) put ∙ get_or-set_other so_far n m k blank ne

      one_item : (j m : ℕ) → j ≡ i → slice_get list j ≡ Some m → n ≡ m
      one_item j m e here_at = let both : Some n ≡ Some m = sym at ∙ ap (slice_get list) (sym e) ∙ here_at in cc

-- of the blocks below a number
pub record NotesBelow {A : Type 0} (note : ℕ → Option Node → List ℕ → A) (blank : A) (graph : GraphShape) (asked : Asked) (back : ℕ → Option Shift) (lists : List (List ℕ)) (values : ℕ → List ℕ) (block : ℕ) (noted_in : List A) : Type 0 where
  pub noted : (b i n : ℕ) (list : List ℕ) → b < block → slice_get lists b ≡ Some list → slice_get list i ≡ Some n → slice_index_or noted_in n blank
      ≡ note n (slice_get graph.nodes n) (before_list graph asked back (drop (suc i) list) (values b))

module _ {A : Type 0} (note : ℕ → Option Node → List ℕ → A) (blank : A) (graph : GraphShape) (asked : Asked) (back : ℕ → Option Shift) (lists : List (List ℕ)) (values : ℕ → List ℕ) (are : IsBlocks graph.nodes lists) where
  -- of none
  pub below_none : (behind : List A) → NotesBelow note blank graph asked back lists values 0 behind
  below_none behind = record { noted = λ b i n list lt. absurd (omega (arith, lt)) }

  -- of one block more
  pub below_more : (block : ℕ) (list : List ℕ) (old new : List A) → slice_get lists block ≡ Some list → NotesBelow note blank graph asked back lists values block old → NotesFrom note blank graph asked back list (values block) 0 old new → NotesBelow note blank graph asked back lists values (block + 1) new
  below_more block list old new listed before notes = record {
    noted = λ b i n other lt there at. elim (cases_eq b block) as (λ _. slice_index_or new n blank ≡ note n (slice_get graph.nodes n) (before_list graph asked back (drop (suc i) other) (values b))) [
      | inl e ↦
          let same : list ≡ other = (let both : Some list ≡ Some other = sym listed ∙ ap (slice_get lists) (sym e) ∙ there in cc) in
          subst (λ c. slice_index_or new n blank ≡ note n (slice_get graph.nodes n) (before_list graph asked back (drop (suc i) other) (values c))) (sym e)
          (subst (λ l. slice_index_or new n blank ≡ note n (slice_get graph.nodes n) (before_list graph asked back (drop (suc i) l) (values block))) same
          (notes.noted i n (omega arith) (ap (λ l. slice_get l i) same ∙ at)))
      | inr ne ↦ elim (notes.others n) as (λ _. slice_index_or new n blank ≡ note n (slice_get graph.nodes n) (before_list graph asked back (drop (suc i) other) (values b))) [
        | inl some ↦ absurd (ne (one_block graph.nodes lists b block n are (record { list = other; listed = there; place = i; is = at }) (record { list = list; listed = listed; place = some.0; is = some.1 })))
        | inr same ↦ same ∙ before.noted b i n other (omega (arith, lt, ne)) there at
      ]
    ];
  }

-- ---- through the nodes of a block

-- each node of a block is one of the graph
pub block_nodes : (graph : GraphShape) (list : List ℕ) → IsBlock graph.nodes list → AreGraphNodes graph list
block_nodes graph list block i n at = chain_within graph.nodes list i n (λ m k edge. edge_within graph.nodes m k edge) block.chain at

-- the node of a number, as it is read of the list of all
pub node_at : (nodes all : List Node) (n : ℕ) (node : Node) → all ≡ nodes → n < length nodes → node ≡ slice_index_or all n node → slice_get nodes n ≡ Some node
node_at nodes all n node same lt is = slice_get-get_or nodes n node lt ∙ ap Some (sym (is ∙ ap (λ (l : List Node). slice_index_or l n node) same))

-- the numbers through one node more
pub walked_more : (graph : GraphShape) (asked : Asked) (back : ℕ → Option Shift) (list bits so_far new : List ℕ) (count n : ℕ) (node : Node) (b : Option Shift) → count < length list → slice_get list (length list - 1 - count) ≡ Some n → slice_get graph.nodes n ≡ Some node → b ≡ back n
    → so_far ≡ before_list graph asked back (drop (length list - count) list) bits → new ≡ bits_through graph asked b node so_far → new ≡ before_list graph asked back (drop (length list - (count + 1)) list) bits
walked_more graph asked back list bits so_far new count n node b lt at here b_is was is =
    let i = length list - 1 - count in
    let next : suc i ≡ length list - count = omega (arith, lt) in
    let this : i ≡ length list - (count + 1) = omega (arith, lt) in
    is ∙ ap (λ o. bits_through graph asked o node so_far) b_is ∙ ap (bits_through graph asked (back n) node) (was ∙ ap (λ j. before_list graph asked back (drop j list) bits) (sym next))
    ∙ sym (ap (λ o. bits_past graph asked (back n) o (before_list graph asked back (drop (suc i) list) bits)) here)
    ∙ sym (ap (λ l. before_list graph asked back l bits) (drop_some list i n at)) ∙ ap (λ j. before_list graph asked back (drop j list) bits) this

-- and what is noted of it
pub noted_more : {A : Type 0} (note : ℕ → Option Node → List ℕ → A) (blank : A) (graph : GraphShape) (asked : Asked) (back : ℕ → Option Shift) (list bits now : List ℕ) (old so_far new : List A) (count n : ℕ) (k : A) (node : Node) → IsBlock graph.nodes list → count < length list → slice_get list (length list - 1 - count) ≡ Some n → slice_get graph.nodes n ≡ Some node
    → now ≡ before_list graph asked back (drop (length list - count) list) bits → NotesFrom note blank graph asked back list bits (length list - count) old so_far → new ≡ slice_set so_far n k → n < length so_far → k ≡ note n (Some node) now
    → NotesFrom note blank graph asked back list bits (length list - (count + 1)) old new
noted_more note blank graph asked back list bits now old so_far new count n k node block lt at here is before put n_in k_is =
    let i = length list - 1 - count in
    let next : length list - count ≡ suc i = omega (arith, lt) in
    let this : i ≡ length list - (count + 1) = omega (arith, lt) in
    subst (λ j. NotesFrom note blank graph asked back list bits j old new) this
    (notes_more note blank graph asked back list bits old i n k so_far new block at (subst (λ j. NotesFrom note blank graph asked back list bits j old so_far) next before) put n_in
    (k_is ∙ ap (note n (Some node)) (is ∙ ap (λ j. before_list graph asked back (drop j list) bits) next) ∙ sym (ap (λ o. note n o (before_list graph asked back (drop (suc i) list) bits)) here)))

-- a list with one number of at most 64 more
pub few_with : (so_far new : List ℕ) (n k : ℕ) → new ≡ slice_set so_far n k → k ≤ 64 → HasFew so_far → HasFew new
few_with so_far new n k put most few x = elim (cases_lt x (length so_far)) as (λ _. number_at new x ≤ 64) [
  | inl lt ↦ elim (cases_eq x n) as (λ _. number_at new x ≤ 64) [
    | inl e ↦ (let there : number_at new x ≡ k = ap (λ (l : List ℕ). number_at l x) put ∙ ap (number_at (slice_set so_far n k)) e ∙ get_or-set_same so_far n k 0 (omega (arith, lt, e)) in omega (arith, there, most))
    | inr ne ↦ (let there : number_at new x ≡ number_at so_far x = ap (λ (l : List ℕ). number_at l x) put ∙ get_or-set_other so_far n x k 0 ne in omega (arith, there, few x))
  ]
  | inr ge ↦ (let none : number_at new x ≡ 0 = get_or_past new x 0 (omega (arith, ge, ap length put, length-set so_far n k)) in omega (arith, none))
]

-- ---- what the nodes become

module _ (graph : GraphShape) (asked : Asked) (shifts : ℕ → ℕ → Option Shift) (backs : List (Option Shift)) (have : HaveBacks graph shifts (back_in backs)) (wanted : ℕ → ℕ → ℕ) (behind : List ℕ)
    (noted : (n : ℕ) → n < length graph.nodes → number_at behind n ≡ behind_bits wanted (slice_get graph.nodes n)) where
  -- a node
  node_becomes : (n : ℕ) (node : Node) → slice_get graph.nodes n ≡ Some node → narrowed_by asked (back_in backs n) (number_at behind n) node ≡ narrowed_node asked (shifts n) wanted node
  node_becomes n (Assign x rhs next) here =
      ap (λ o. narrowed_by asked o (number_at behind n) (Assign x rhs next)) (have n (Assign x rhs next) here)
      ∙ ap (λ k. narrowed_by asked (back_of (shifts n) (Assign x rhs next)) k (Assign x rhs next)) (noted n (slice_get_within graph.nodes n (Assign x rhs next) here) ∙ ap (behind_bits wanted) here)
  node_becomes n (Start next) here = refl
  node_becomes n (Skip next) here = refl
  node_becomes n (Print a next) here = refl
  node_becomes n (Guard test number next) here = refl
  node_becomes n (Call into unit operands next) here = refl
  node_becomes n (Test test taken other) here = refl
  node_becomes n (Return a) here = refl

  -- and all of them
  pub nodes_become : (nodes : List Node) → AreListed graph asked backs behind nodes → (n : ℕ) → slice_get nodes n ≡ option_map (narrowed_node asked (shifts n) wanted) (slice_get graph.nodes n)
  nodes_become nodes are n = are n ∙ go (slice_get graph.nodes n) refl
    where
      go : (o : Option Node) → slice_get graph.nodes n ≡ o → option_map (narrowed_by asked (back_in backs n) (number_at behind n)) o ≡ option_map (narrowed_node asked (shifts n) wanted) o
      go None here = refl
      go (Some node) here = ap Some (node_becomes n node here)
