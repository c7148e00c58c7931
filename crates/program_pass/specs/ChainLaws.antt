-- Laws: what plain assignments that stand one after the other do. For proofs only.
use Rattle.std.proofs.Common.{◌≡◌, ℕ, zero, suc, ◌+◌, ◌<◌, ◌≤◌, Bool, true, false, if◌then◌else◌, List, [], ◌∷◌, ◌++◌, length, length-append, slice_get, slice_set, Some, refl, sym, ap, ◌∙◌, arith}
use Rattle.std.proofs.lemmas.List.{length-set}
use Rattle.std.proofs.lemmas.Option.{slice_get_within}
use Rattle.mir_base.specs.declared.instructions.Operand.{Operand}
use Rattle.mir_base.specs.declared.instructions.Rhs.{Rhs}
use Rattle.mir_base.specs.declared.instructions.Rhs.TheVariants.{Plain}
use Rattle.mir_base.specs.Expressions.{rhs_value}
use Rattle.mir_base.specs.Frames.{Continues, Frame, Values, with_value}
use Rattle.mir_base.specs.Simulations.{Silently}
use Rattle.mir_base.specs.Units.{assign_transition, at}
use Rattle.flow_graph.specs.declared.nodes.Node.{Node}
use Rattle.flow_graph.specs.declared.nodes.Node.TheVariants.{Assign, Skip}
use Rattle.graph_edit.specs.InsertionRuns.{values_after}
use Rattle.graph_edit.specs.Insertions.{Insertion, chain, entry_among}
use Rattle.flow_graph.specs.ListLaws.{get_left, get_right_at, set_elsewhere, set_here}
use Rattle.flow_graph.specs.Machines.{graph_code, node_transition}
use Rattle.jump_clean.specs.Chains.{Skips}
use Rattle.program_pass.specs.Chains.{stood}

-- the assignments stand one after the other from this number on, and the last leads to node `end`
abbrev pub ChainStands : List Node → ℕ → List Insertion → ℕ → Type 0
ChainStands nodes fresh [] end = Unit {0}
ChainStands nodes fresh (put ∷ puts) end =
    (slice_get nodes fresh ≡ Some (Assign put.var put.rhs (entry_among end (suc fresh) puts)))
    × ChainStands nodes (suc fresh) puts end

-- The assignments stand one after the other, the first at node n and the others from number `fresh` on, and the last
-- leads to node `end`. Where there are none, node n is a Skip to `end`
abbrev pub StandsAt : List Node → ℕ → ℕ → List Insertion → ℕ → Type 0
StandsAt nodes n fresh [] end = slice_get nodes n ≡ Some (Skip end)
StandsAt nodes n fresh (put ∷ puts) end =
    (slice_get nodes n ≡ Some (Assign put.var put.rhs (entry_among end fresh puts)))
    × ChainStands nodes fresh puts end

-- each sets its variable to an operand
abbrev pub ArePlain : List Insertion → Type 0
ArePlain [] = Unit {0}
ArePlain (put ∷ puts) = ((a : Operand) × (put.rhs ≡ Plain a)) × ArePlain puts

-- joined lists
pub plain_append : (puts others : List Insertion) → ArePlain puts → ArePlain others → ArePlain (puts ++ others)
plain_append [] others p q = q
plain_append (put ∷ puts) others p q = (p.0, plain_append puts others p.1 q)

-- the values after joined lists
pub values_append : (puts others : List Insertion) (values : Values) → values_after (puts ++ others) values ≡ values_after others (values_after puts values)
values_append [] others values = refl
values_append (put ∷ puts) others values = values_append puts others (with_value put.var (rhs_value values put.rhs) values)

-- what is so of a list, and with an assignment before it, is so where a test says whether there is one
pub put_or_not : (P : List Insertion → Type 0) (b : Bool) (put : Insertion) (puts : List Insertion)
    → (b ≡ true → P puts) → (b ≡ false → P (put ∷ puts)) → P (if b then puts else put ∷ puts)
put_or_not P true put puts without with = without refl
put_or_not P false put puts without with = with refl

-- a frame that has gone on to a node, with these values
abbrev pub gone_on : ℕ → Values → Frame → Frame
gone_on place values frame = record { place = place; arguments = frame.arguments; values = values }

module _ (shared : ℕ) (received : List ℕ) (nodes : List Node) where
  -- a node that goes on silently, and counts nothing
  one_silent : (f g : Frame) → graph_code shared received nodes f ≡ Continues 0 g → Silently (graph_code shared received nodes) 1 f g 0
  one_silent f g is = (g, 0, 0, is, (refl, refl), refl)

  -- a plain assignment
  plain_step : (f : Frame) (x : ℕ) (rhs : Rhs) (next : ℕ) → slice_get nodes f.place ≡ Some (Assign x rhs next)
      → (a : Operand) × (rhs ≡ Plain a)
      → graph_code shared received nodes f ≡ Continues 0 (gone_on next (with_value x (rhs_value f.values rhs) f.values) f)
  plain_step f x rhs next here p =
      ap (λ o. node_transition shared received o f) here ∙ ap (λ r. assign_transition x r next f) p.1
      ∙ ap (λ r. Continues 0 (gone_on next (with_value x (rhs_value f.values r) f.values) f)) (sym p.1)

  -- Skips one after the other
  pub skips_silently : (k n m : ℕ) (f : Frame) → f.place ≡ n → Skips nodes k n m → Silently (graph_code shared received nodes) k f (at m f) 0
  skips_silently zero n m f here s = (ap (λ p. at p f) (here ∙ s), refl)
  skips_silently (suc k) n m f here s =
      let is : graph_code shared received nodes f ≡ Continues 0 (at s.0 f) = ap (λ o. node_transition shared received o f) (ap (slice_get nodes) here ∙ s.1) in
      (at s.0 f, 0, 0, is, skips_silently k s.0 m (at s.0 f) refl s.2, refl)

  -- from a new node on
  chain_silently : (fresh : ℕ) (puts : List Insertion) (end : ℕ) → ChainStands nodes fresh puts end → ArePlain puts
      → (f : Frame) → f.place ≡ entry_among end fresh puts
      → (k : ℕ) × Silently (graph_code shared received nodes) k f (gone_on end (values_after puts f.values) f) 0
  chain_silently fresh [] end stands plain f here = (0, (ap (λ p. gone_on p f.values f) here, refl))
  chain_silently fresh (put ∷ puts) end stands plain f here =
      let next : ℕ = entry_among end (suc fresh) puts in
      let there : Frame = gone_on next (with_value put.var (rhs_value f.values put.rhs) f.values) f in
      let rest = chain_silently (suc fresh) puts end stands.1 plain.1 there refl in
      (suc rest.0, (there, 0, 0, plain_step f put.var put.rhs next (ap (slice_get nodes) here ∙ stands.0) plain.0, rest.1, refl))

  -- plain assignments lead silently to the end, with the values after them
  pub stands_silently : (n fresh : ℕ) (puts : List Insertion) (end : ℕ) → StandsAt nodes n fresh puts end
      → ArePlain puts → (f : Frame) → f.place ≡ n
      → (k : ℕ) × (1 ≤ k) × Silently (graph_code shared received nodes) k f (gone_on end (values_after puts f.values) f) 0
  stands_silently n fresh [] end stands plain f here =
      (1, omega arith, one_silent f (gone_on end f.values f) (ap (λ o. node_transition shared received o f) (ap (slice_get nodes) here ∙ stands)))
  stands_silently n fresh (put ∷ puts) end stands plain f here =
      let next : ℕ = entry_among end fresh puts in
      let there : Frame = gone_on next (with_value put.var (rhs_value f.values put.rhs) f.values) f in
      let rest = chain_silently fresh puts end stands.1 plain.1 there refl in
      (suc rest.0, omega arith, (there, 0, 0, plain_step f put.var put.rhs next (ap (slice_get nodes) here ∙ stands.0) plain.0, rest.1, refl))

-- ---- assignments in the place of a node

-- the nodes stay where they were but for node n
pub stood_kept : (nodes : List Node) (n : ℕ) (puts : List Insertion) (end m : ℕ) → (m ≡ n → ⊥) → m < length nodes
    → slice_get (stood nodes n puts end) m ≡ slice_get nodes m
stood_kept nodes n [] end m apart lt = set_elsewhere nodes n m (Skip end) apart
stood_kept nodes n (put ∷ puts) end m apart lt =
    let node : Node = Assign put.var put.rhs (entry_among end (length nodes) puts) in
    get_left (slice_set nodes n node) (chain end (length nodes) puts) m (omega (arith, lt, length-set nodes n node)) ∙ set_elsewhere nodes n m node apart

-- there are no fewer
pub stood_long : (nodes : List Node) (n : ℕ) (puts : List Insertion) (end : ℕ) → length nodes ≤ length (stood nodes n puts end)
stood_long nodes n [] end = omega (arith, length-set nodes n (Skip end))
stood_long nodes n (put ∷ puts) end =
    let node : Node = Assign put.var put.rhs (entry_among end (length nodes) puts) in
    omega (arith, length-set nodes n node, length-append (slice_set nodes n node) (chain end (length nodes) puts))

-- a chain stands where its nodes do
chain_stands : (nodes : List Node) (fresh : ℕ) (puts : List Insertion) (end : ℕ)
    → ((i : ℕ) → i < length puts → slice_get nodes (fresh + i) ≡ slice_get (chain end fresh puts) i)
    → ChainStands nodes fresh puts end
chain_stands nodes fresh [] end are = tt
chain_stands nodes fresh (put ∷ puts) end are =
    let here : fresh + 0 ≡ fresh = omega arith in (
      ap (slice_get nodes) (sym here) ∙ are 0 (omega arith),
      chain_stands nodes (suc fresh) puts end (λ i lt. let there : suc fresh + i ≡ fresh + suc i = omega arith in ap (slice_get nodes) there ∙ are (suc i) (omega (arith, lt))),
    )

-- the assignments stand in the place of the node
pub stood_stands : (nodes : List Node) (n : ℕ) (puts : List Insertion) (end : ℕ) → n < length nodes
    → StandsAt (stood nodes n puts end) n (length nodes) puts end
stood_stands nodes n [] end lt = set_here nodes n (Skip end) lt
stood_stands nodes n (put ∷ puts) end lt =
    let node : Node = Assign put.var put.rhs (entry_among end (length nodes) puts) in
    let olds : List Node = slice_set nodes n node in
    let long : length olds ≡ length nodes = length-set nodes n node in (
      get_left olds (chain end (length nodes) puts) n (omega (arith, lt, long)) ∙ set_here nodes n node lt,
      chain_stands (olds ++ chain end (length nodes) puts) (length nodes) puts end (λ i lt'. get_right_at olds (chain end (length nodes) puts) (length nodes + i) i (omega (arith, long))),
    )

-- how many new nodes a chain has
pub chain_long : (end fresh : ℕ) (puts : List Insertion) → length (chain end fresh puts) ≡ length puts
chain_long end fresh [] = refl
chain_long end fresh (put ∷ puts) = ap suc (chain_long end (suc fresh) puts)

-- a chain that stands is among the nodes, so it stands in other nodes that have the same in its places
chain_moves : (nodes others : List Node) (fresh : ℕ) (puts : List Insertion) (end : ℕ)
    → ((m : ℕ) → fresh ≤ m → m < length nodes → slice_get others m ≡ slice_get nodes m)
    → ChainStands nodes fresh puts end → ChainStands others fresh puts end
chain_moves nodes others fresh [] end same stands = tt
chain_moves nodes others fresh (put ∷ puts) end same stands = (
  same fresh (omega arith) (slice_get_within nodes fresh (Assign put.var put.rhs (entry_among end (suc fresh) puts)) stands.0) ∙ stands.0,
  chain_moves nodes others (suc fresh) puts end (λ m ge. same m (omega (arith, ge))) stands.1,
)

-- so do assignments that stand
pub stands_moves : (nodes others : List Node) (n fresh : ℕ) (puts : List Insertion) (end : ℕ)
    → slice_get others n ≡ slice_get nodes n
    → ((m : ℕ) → fresh ≤ m → m < length nodes → slice_get others m ≡ slice_get nodes m)
    → StandsAt nodes n fresh puts end → StandsAt others n fresh puts end
stands_moves nodes others n fresh [] end here same stands = here ∙ stands
stands_moves nodes others n fresh (put ∷ puts) end here same stands = (here ∙ stands.0, chain_moves nodes others fresh puts end same stands.1)
