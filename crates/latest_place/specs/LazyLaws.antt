-- There is one lazy placement. For proofs only.
use Rattle.std.proofs.Common.{◌≡◌, ℕ, ◌<◌, Bool, true, false, List, [], length, refl, sym, ap, ◌∙◌, arith, true≢false}
use Rattle.std.specs.Prelude.{◌↔◌}
use Rattle.std.proofs.lemmas.List.{ext_get_or}
use Rattle.mir_base.specs.declared.instructions.Expr.{Expr}
use Rattle.bit_rows.specs.Bits.{row_of}
use Rattle.flow_graph.specs.ListLaws.{some_at}
use Rattle.flow_graph.specs.Graphs.{GraphShape}
use Rattle.path_laws.specs.Paths.{AreRows, HaveShape, has_bit}
use Rattle.motion_rewrite.specs.declared.placement.Placement.{Placement}
use Rattle.latest_place.specs.Lazy.{AreLazy}

-- rows of equal shape that have the same bits are equal
pub rows_are_one : (nodes bits : ℕ) (a b : List (List Bool)) → AreRows nodes bits a
    → AreRows nodes bits b → ((n i : ℕ) → n < nodes → i < bits → has_bit a i n ≡ has_bit b i n)
    → a ≡ b
rows_are_one nodes bits a b p q same =
    ext_get_or [] a b (p.len ∙ sym q.len) (λ n lt.
    let within : n < nodes = omega (arith, lt, p.len) in
    ext_get_or false (row_of a n) (row_of b n) (p.each n within ∙ sym (q.each n within)) (λ i lt'. same n i within (omega (arith, lt', p.each n within))))

-- bits that are set under one statement are equal
pub one_bit : (P : Type 0) (x y : Bool) → (x ≡ true) ↔ P → (y ≡ true) ↔ P → x ≡ y
one_bit P true true p q = refl
one_bit P false false p q = refl
one_bit P true false p q = absurd (true≢false (sym (q.1 (p.0 refl))))
one_bit P false true p q = absurd (true≢false (sym (p.1 (q.0 refl))))

-- two lazy placements have the same bits
pub lazy_is_one : (graph : GraphShape) (table : List Expr) (Down : Expr → ℕ → Type 0) (p q : Placement)
    → HaveShape graph (length table) p.insert → HaveShape graph (length table) p.replace → HaveShape graph (length table) q.insert → HaveShape graph (length table) q.replace
    → AreLazy graph table Down p → AreLazy graph table Down q → p ≡ q
lazy_is_one graph table Down p q pi pr qi qr lazy lazy' =
    ap (λ x. record p { insert = x }) (rows_are_one (length graph.nodes) (length table) p.insert q.insert pi qi (λ n i lt lt'.
    let e = some_at table i lt' in
    one_bit _ (has_bit p.insert i n) (has_bit q.insert i n) ((lazy i e.0 e.1).inserts_at n lt) ((lazy' i e.0 e.1).inserts_at n lt)))
    ∙ ap (λ x. record q { replace = x }) (rows_are_one (length graph.nodes) (length table) p.replace q.replace pr qr (λ n i lt lt'.
    let e = some_at table i lt' in
    one_bit _ (has_bit p.replace i n) (has_bit q.replace i n) ((lazy i e.0 e.1).replaces_at n lt) ((lazy' i e.0 e.1).replaces_at n lt)))
