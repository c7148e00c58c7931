-- Laws of graphs as machines: each call of a graph hands over the values of its globals, and the globals that a call
-- hands over are those of the first frame. For proofs only, of the crates
-- above too.
use Rattle.std.proofs.Common.{◌≡◌, ℕ, suc, ◌+◌, ◌<◌, List, [], ◌∷◌, map, length, slice_get, slice_index_or, ℤ, pos, Option, Some, None, refl, ap, ◌∙◌, subst, arith, zero-add}
use Rattle.std.specs.List.{range_with_len}
use Rattle.mir_base.specs.Frames.{Frame, Values, shared_values, with_first}
use Rattle.mir_base.specs.SharedLaws.{assign_hands, body_hands, guard_hands, shared_long, with_first_same}
use Rattle.mir_base.specs.Simulations.{HandsOver}
use Rattle.flow_graph.specs.declared.nodes.Node.{Node}
use Rattle.flow_graph.specs.declared.nodes.Node.TheVariants.{Start, Skip, Assign, Print, Guard, Call, Test, Return}
use Rattle.flow_graph.specs.Keeps.{Form, AsGraph, AsUnit, form_machine}
use Rattle.flow_graph.specs.Machines.{graph_code, node_transition}

module _ (shared : ℕ) (received : List ℕ) where
  node_hands : (o : Option Node) (frame : Frame) → HandsOver shared (node_transition shared received o frame)
  node_hands None frame = tt
  node_hands (Some (Start next)) frame = tt
  node_hands (Some (Skip next)) frame = tt
  node_hands (Some (Assign x rhs next)) frame = assign_hands shared x rhs next frame
  node_hands (Some (Print a next)) frame = tt
  node_hands (Some (Guard test number next)) frame = guard_hands shared test number next frame
  node_hands (Some (Call into unit operands next)) frame = shared_long shared frame.values
  node_hands (Some (Test test taken other)) frame = tt
  node_hands (Some (Return a)) frame = tt

  pub graph_hands : (nodes : List Node) (frame : Frame) → HandsOver shared (graph_code shared received nodes frame)
  graph_hands nodes frame = node_hands (slice_get nodes frame.place) frame

-- so does each call of a unit in one of its forms
pub form_hands : (form : Form) (frame : Frame) → HandsOver (form_machine form).shared ((form_machine form).code frame)
form_hands (AsUnit shape) frame = body_hands shape.shared shape.body frame
form_hands (AsGraph shape) frame = graph_hands shape.shared shape.received shape.nodes frame

-- a list is that of the values of the variables from number a on, where these have its items for values
pub map_range : {A : Type 0} (d : A) (values : ℕ → A) (a : ℕ) (zs : List A)
    → ((i : ℕ) → i < length zs → values (a + i) ≡ slice_index_or zs i d)
    → map values (range_with_len a (length zs)) ≡ zs
map_range d values a [] same = refl
map_range d values a (z ∷ zs) same =
    let here : values a ≡ z = ap values (let none : a ≡ a + 0 = omega arith in none) ∙ same 0 (omega arith) in
    ap (λ y. y ∷ map values (range_with_len (a + 1) (length zs))) here
    ∙ ap (λ ys. z ∷ ys) (map_range d values (a + 1) zs (λ i lt. ap values (let next : a + 1 + i ≡ a + suc i = omega arith in next) ∙ same (suc i) (omega (arith, lt))))

-- the globals of the first frame are those that the call hands over
pub first_shared : (shared : ℕ) (globals : List ℤ) (values : Values) → length globals ≡ shared → shared_values shared (with_first globals values) ≡ globals
first_shared shared globals values long =
    subst (λ n. map (with_first globals values) (range_with_len 0 n) ≡ globals) long (map_range (pos 0) (with_first globals values) 0 globals (λ i lt. ap (with_first globals values) (zero-add i) ∙ with_first_same globals values (λ x. pos 0) i lt))
