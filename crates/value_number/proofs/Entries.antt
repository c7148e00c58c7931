-- New entries of the table: what they name, and what each is needed for.
use Rattle.std.proofs.Common.{◌≡◌, ◌⊎◌, inl, inr, ℕ, ◌<◌, ◌≤◌, Bool, true, false, if◌then◌else◌, nat_eq, nat_lt, eq-eqb, List, [], ◌∷◌, length, slice_get, Option, Some, Result, Ok, Err, IfOk, OnOk, refl, sym, ap, ◌∙◌, subst, arith}
use Rattle.std.proofs.lemmas.Bool.{ltb-false}
use Rattle.mir_base.specs.declared.instructions.Operand.{Operand}
use Rattle.mir_base.specs.declared.instructions.Rhs.{Rhs}
use Rattle.mir_base.specs.declared.operators.Op.{Op}
use Rattle.mir_base.specs.declared.operators.UnOp.{UnOp}
use Rattle.mir_base.specs.Expressions.{divides}
use Rattle.key_table.specs.Keys.{IsWithKey}
use Rattle.flow_graph.specs.declared.nodes.Node.{Node}
use Rattle.flow_graph.specs.declared.nodes.Node.TheVariants.{Assign, Call}
use Rattle.flow_graph.specs.Edges.{preds_of}
use Rattle.flow_graph.specs.EdgeLaws.{pred_is}
use Rattle.flow_graph.specs.BoundLaws.{edge_within}
use Rattle.flow_graph.specs.Graphs.{GraphShape}
use Rattle.flow_graph.specs.ListLaws.{get_push}
use Rattle.value_number.specs.declared.terms.TermKey.{TermKey}
use Rattle.value_number.specs.declared.terms.TermKey.TheVariants as keys
use Rattle.value_number.specs.Entries.{AreEntries, GainsEntries, GainsEntriesFor, IsEntryWithin, IsOperandIn, IsSame, IsTermAfter, IsTermOf}
use Rattle.value_number.specs.Roots.{FromRoot, terms_before}
use Rattle.value_number.specs.Table.{Represent, Stands, Stay}
use Rattle.value_number.specs.Terms.{Terms, Opaque, assigned_term, node_terms, operand_term, renewed_terms, rhs_term}
use Rattle.value_number.specs.TermWalks.{GrowsAfter, IsLeafBelow}
use Rattle.value_number.proofs.Stands.{represent_on, stands_on, stands_within}

-- ---- entries that are put in

-- an operand stays one
operand_on : (old new : List TermKey) → Stay old new → (k : ℕ) → IsOperandIn old k → IsOperandIn new k
operand_on old new stay k operand = (operand.0, operand.1, stay operand.0 operand.1 operand.2, operand.3)

module _ (vars nodes : ℕ) where
  -- the key of one entry
  pub put_grows : (Needed : ℕ → Type 0) (old : List TermKey) (key : TermKey) (new : List TermKey) → IsWithKey old key new → IsEntryWithin vars nodes (length old) key → ((k : ℕ) → slice_get new k ≡ Some key → Needed k) → GainsEntries vars nodes Needed old new
  put_grows Needed old key new (inl there) within needed k other at = inl (subst (λ l. slice_get l k ≡ Some other) there.1 at)
  put_grows Needed old key new (inr fresh) within needed k other at =
      elim (get_push old key other k (subst (λ l. slice_get l k ≡ Some other) fresh.1 at)) as (λ _. (slice_get old k ≡ Some other) ⊎ (IsEntryWithin vars nodes k other × (IsOperandIn new k ⊎ Needed k))) [
        | inl there ↦ inl there
        | inr last ↦ inr (subst (λ i. IsEntryWithin vars nodes i other) (sym last.0) (subst (IsEntryWithin vars nodes (length old)) last.1 within), inr (needed k (at ∙ ap Some (sym last.1))))
      ]

  -- entries that are needed in another way too
  pub grows_more : (First Needed : ℕ → Type 0) (old new : List TermKey) → ((k : ℕ) → First k → Needed k) → GainsEntries vars nodes First old new → GainsEntries vars nodes Needed old new
  grows_more First Needed old new more grows k key at = elim (grows k key at) as (λ _. (slice_get old k ≡ Some key) ⊎ (IsEntryWithin vars nodes k key × (IsOperandIn new k ⊎ Needed k))) [
    | inl there ↦ inl there
    | inr fresh ↦ inr (fresh.0, elim fresh.1 as (λ _. IsOperandIn new k ⊎ Needed k) [ inl operand ↦ inl operand | inr first ↦ inr (more k first) ])
  ]

  -- entries that are put in one after the other
  pub grows_both : (First Needed : ℕ → Type 0) (old mid new : List TermKey) → Stay mid new → ((k : ℕ) → First k → IsOperandIn new k ⊎ Needed k) → GainsEntries vars nodes First old mid → GainsEntries vars nodes Needed mid new → GainsEntries vars nodes Needed old new
  grows_both First Needed old mid new stay first p q k key at = elim (q k key at) as (λ _. Where) [ inl there ↦ earlier (p k key there) | inr fresh ↦ inr fresh ]
    where
      Where : Type 0
      Where = (slice_get old k ≡ Some key) ⊎ (IsEntryWithin vars nodes k key × (IsOperandIn new k ⊎ Needed k))

      earlier : (slice_get old k ≡ Some key) ⊎ (IsEntryWithin vars nodes k key × (IsOperandIn mid k ⊎ First k)) → Where
      earlier (inl there) = inl there
      earlier (inr fresh) = inr (fresh.0, elim fresh.1 as (λ _. IsOperandIn new k ⊎ Needed k) [ inl operand ↦ inl (operand_on mid new stay k operand) | inr one ↦ first k one ])

-- ---- right sides

-- a leaf
pub leaf_grows : {E : Type 0} (old : List TermKey) (key : TermKey) (new : List TermKey) (numbers : List (Option ℕ)) (root : ℕ) (r : Result ℕ E) → OnOk r (IsWithKey old key new) → IfOk r (λ n. (k : ℕ) → slice_get new k ≡ Some key → k ≡ n)
    → ((nodes : ℕ) → root < nodes → IsEntryWithin (length numbers) nodes (length old) key) → IfOk r (λ n. GainsEntriesFor numbers root n old new)
leaf_grows old key new numbers root (Ok n) put only within = λ nodes terms lt represent. put_grows (length numbers) nodes (IsSame n) old key new put (within nodes lt) only
leaf_grows old key new numbers root (Err e) put only within = tt

-- an operator on the operand of a number
pub unary_grows : {E : Type 0} (old mid new : List TermKey) (numbers : List (Option ℕ)) (root : ℕ) (op : UnOp) (a : Operand) (n : ℕ) (r : Result ℕ E) → OnOk r (Stay mid new) → OnOk r (IsWithKey mid (keys.Unary op n) new)
    → IfOk r (λ m. slice_get new m ≡ Some (keys.Unary op n)) → IfOk r (λ m. (k : ℕ) → slice_get new k ≡ Some (keys.Unary op n) → k ≡ m)
    → ((terms : Terms) → Represent old numbers root terms → Stands mid n (operand_term terms a)) → GainsEntriesFor numbers root n old mid → IfOk r (λ m. GainsEntriesFor numbers root m old new)
unary_grows old mid new numbers root op a n (Ok m) stay put here only first grows = λ nodes terms lt represent.
    grows_both (length numbers) nodes (IsSame n) (IsSame m) old mid new stay (λ k same. inl (m, keys.Unary op n, here, same)) (grows nodes terms lt represent)
    (put_grows (length numbers) nodes (IsSame m) mid (keys.Unary op n) new put (stands_within mid n (operand_term terms a) (first terms represent)) only)
unary_grows old mid new numbers root op a n (Err e) stay put here only first grows = tt

-- or on the operands of two
pub binary_grows : {E : Type 0} (old mid mid' new : List TermKey) (numbers : List (Option ℕ)) (root : ℕ) (op : Op) (a b : Operand) (n o : ℕ) (r : Result ℕ E) → Stay old mid → Stay mid mid' → OnOk r (Stay mid' new) → OnOk r (IsWithKey mid' (keys.Binary op n o) new)
    → IfOk r (λ m. slice_get new m ≡ Some (keys.Binary op n o)) → IfOk r (λ m. (k : ℕ) → slice_get new k ≡ Some (keys.Binary op n o) → k ≡ m)
    → ((terms : Terms) → Represent old numbers root terms → Stands mid n (operand_term terms a)) → ((terms : Terms) → Represent mid numbers root terms → Stands mid' o (operand_term terms b))
    → GainsEntriesFor numbers root n old mid → GainsEntriesFor numbers root o mid mid' → IfOk r (λ m. GainsEntriesFor numbers root m old new)
binary_grows old mid mid' new numbers root op a b n o (Ok m) s s' s'' put here only first second grows grows' = λ nodes terms lt represent.
    let count = length numbers in
    let more = represent_on old mid numbers root terms s represent in
    let left = stands_within mid' n (operand_term terms a) (stands_on mid mid' s' (operand_term terms a) n (first terms represent)) in
    let right = stands_within mid' o (operand_term terms b) (second terms more) in
    let either : ℕ → Type 0 = λ k. (k ≡ n) ⊎ (k ≡ o) in
    let operands = grows_both count nodes (IsSame n) either old mid mid' s' (λ k same. inr (inl same)) (grows nodes terms lt represent)
    (grows_more count nodes (IsSame o) either mid mid' (λ k same. inr same) (grows' nodes terms lt more)) in
    grows_both count nodes either (IsSame m) old mid' new s'' (λ k same. inl (m, keys.Binary op n o, here, same)) operands
    (put_grows count nodes (IsSame m) mid' (keys.Binary op n o) new put (left, right) only)
binary_grows old mid mid' new numbers root op a b n o (Err e) s s' s'' put here only first second grows grows' = tt

-- ---- what is assigned

-- the term of the assigned variable after the node
assigned_after : (table : List TermKey) (vars shared n x next k : ℕ) (rhs : Rhs) (terms : Terms) → x < vars → Stands table k (assigned_term n x terms rhs) → IsTermOf table vars (node_terms shared n (Assign x rhs next) terms) k
assigned_after table vars shared n x next k rhs terms lt stands = (x, lt, subst (λ b. Stands table k (if b then assigned_term n x terms rhs else terms x)) (sym (eq-eqb x x refl)) stands)

-- the entries of a right side that does not divide
pub rhs_grows : (old new : List TermKey) (numbers : List (Option ℕ)) (root n x next number : ℕ) (rhs : Rhs) → x < length numbers → ((terms : Terms) → Represent old numbers root terms → Stands new number (assigned_term n x terms rhs))
    → GainsEntriesFor numbers root number old new → GrowsAfter numbers root n (Assign x rhs next) old new
rhs_grows old new numbers root n x next number rhs lt stands grows = λ shared nodes terms root_lt n_lt represent.
    let count = length numbers in
    grows_more count nodes (IsSame number) (IsTermOf new count (node_terms shared n (Assign x rhs next) terms)) old new
    (λ k same. assigned_after new count shared n x next k rhs terms lt (subst (λ i. Stands new i (assigned_term n x terms rhs)) (sym same) (stands terms represent)))
    (grows nodes terms root_lt represent)

-- the leaf of one that divides
pub division_grows : (old new : List TermKey) (numbers : List (Option ℕ)) (root n x next : ℕ) (rhs : Rhs) → x < length numbers → divides rhs ≡ true → IsWithKey old (keys.Opaque n x) new → GrowsAfter numbers root n (Assign x rhs next) old new
division_grows old new numbers root n x next rhs lt divided put = λ shared nodes terms root_lt n_lt represent.
    let count = length numbers in
    put_grows count nodes (IsTermOf new count (node_terms shared n (Assign x rhs next) terms)) old (keys.Opaque n x) new put (n_lt, lt)
    (λ k at. assigned_after new count shared n x next k rhs terms lt (subst (λ b. Stands new k (if b then Opaque n x else rhs_term terms rhs)) (sym divided) at))

-- ---- what a call gives

-- the leaf of its result
pub opaque_after : (table : List TermKey) (vars shared n x unit next : ℕ) (operands : List Operand) (terms : Terms) → x < vars → (k : ℕ) → slice_get table k ≡ Some (keys.Opaque n x) → IsTermOf table vars (node_terms shared n (Call (Some x) unit operands next) terms) k
opaque_after table vars shared n x unit next operands terms lt k at = (x, lt, by (nat_lt x shared))
  where
    by : (b : Bool) → Stands table k (if b then Opaque n x else (if nat_eq x x then Opaque n x else terms x))
    by true = at
    by false = subst (λ b. Stands table k (if b then Opaque n x else terms x)) (sym (eq-eqb x x refl)) at

-- the leaves of globals
pub leaf_renewed : (table : List TermKey) (n shared vars : ℕ) (terms : Terms) → shared ≤ vars → (k : ℕ) → IsLeafBelow table n shared k → IsTermOf table vars (renewed_terms n shared terms) k
leaf_renewed table n shared vars terms few k leaf = (leaf.0, omega (arith, few, leaf.1), by (nat_lt leaf.0 shared) refl)
  where
    by : (b : Bool) → nat_lt leaf.0 shared ≡ b → Stands table k (if b then Opaque n leaf.0 else terms leaf.0)
    by true e = leaf.2
    by false e = absurd (let past : shared ≤ leaf.0 = ltb-false leaf.0 shared e in omega (arith, past, leaf.1))

-- ---- the whole table

-- a table without entries
pub no_entries : (graph : GraphShape) (table : List TermKey) → table ≡ [] → AreEntries graph table
no_entries graph table none = subst (AreEntries graph) (sym none) (record { within = λ k key at. cc; needed = λ k key at. cc })

-- a root is a node
pub root_there : (nodes : List Node) (n root : ℕ) (before : List ℕ) → FromRoot nodes root n before → n < length nodes → root < length nodes
root_there nodes n root [] path lt = subst (λ k. k < length nodes) path.0 lt
root_there nodes n root (m ∷ before) path lt =
    root_there nodes m root before path.2 (edge_within nodes m n (pred_is nodes n 0 m (ap (λ l. slice_get l 0) path.1)))

-- once a node is passed
pub entries_on : (graph : GraphShape) (old new : List TermKey) (n root : ℕ) (before : List ℕ) (node : Node) → slice_get graph.nodes n ≡ Some node → FromRoot graph.nodes root n before → Stay old new → AreEntries graph old
    → GainsEntries (length graph.vars) (length graph.nodes) (IsTermOf new (length graph.vars) (node_terms graph.shared n node (terms_before graph.shared graph.nodes root before))) old new → AreEntries graph new
entries_on graph old new n root before node here path stay entries grows = record {
  within = λ k key at. elim (grows k key at) as (λ _. IsEntryWithin (length graph.vars) (length graph.nodes) k key) [ inl there ↦ entries.within k key there | inr fresh ↦ fresh.0 ];
  needed = λ k key at. elim (grows k key at) as (λ _. Where k) [
    | inl there ↦ elim (entries.needed k key there) as (λ _. Where k) [ inl operand ↦ inl (operand_on old new stay k operand) | inr after ↦ inr (term_on k after) ]
    | inr fresh ↦ elim fresh.1 as (λ _. Where k) [ inl operand ↦ inl operand | inr term ↦ inr (record { n = n; node = node; root = root; before = before; here = here; path = path; term = term }) ]
  ];
}
  where
    Where : ℕ → Type 0
    Where k = IsOperandIn new k ⊎ IsTermAfter graph new k

    term_on : (k : ℕ) → IsTermAfter graph old k → IsTermAfter graph new k
    term_on k after = record {
      n = after.n;
      node = after.node;
      root = after.root;
      before = after.before;
      here = after.here;
      path = after.path;
      term = (after.term.0, after.term.1, stands_on old new stay _ k after.term.2);
    }
