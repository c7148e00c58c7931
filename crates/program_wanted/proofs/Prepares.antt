-- What is made of the graphs of units, as it grows: one unit more.
use Rattle.std.proofs.Common.{◌≡◌, ℕ, ◌+◌, ◌<◌, inl, inr, List, [], ◌∷◌, ◌++◌, length, slice_get, Some, sym, ap, ◌∙◌, subst, arith}
use Rattle.std.proofs.lemmas.Bool.{cases_eq}
use Rattle.std.proofs.lemmas.List.{length_push}
use Rattle.std.proofs.lemmas.Option.{slice_get_within}
use Rattle.flow_graph.specs.Graphs.{GraphShape}
use Rattle.flow_graph.specs.ListLaws.{get_left, get_push, get_seam}
use Rattle.wanted_bits.specs.declared.preparing.Prepared.{Prepared}
use Rattle.wanted_bits.specs.Preparing.{IsPrepared}
use Rattle.program_wanted.specs.declared.raising.UnitAsks.{UnitAsks}
use Rattle.program_wanted.specs.Preparing.{AreAskListsBelow, ArePreparedBelow, FitsUnit}

-- what is made of one graph more
pub prepared_more : (graphs : List GraphShape) (count : ℕ) (graph : GraphShape) (one : Prepared) (now new : List Prepared) → slice_get graphs count ≡ Some graph → ArePreparedBelow graphs count now → IsPrepared graph one → new ≡ now ++ one ∷ [] → ArePreparedBelow graphs (count + 1) new
prepared_more graphs count graph one now new at so_far is put = record {
  long = ap (λ (l : List Prepared). length l) put ∙ length_push now one ∙ ap (λ n. n + 1) so_far.long;
  are = λ u g p at_u at_p. elim (cases_eq u count) [
    | inl e ↦
        let both : Some graph ≡ Some g = sym at ∙ ap (slice_get graphs) (sym e) ∙ at_u in
        let same : graph ≡ g = cc in
        let here : Some one ≡ Some p = sym (get_seam now [] one) ∙ ap (slice_get (now ++ one ∷ [])) (so_far.long ∙ sym e) ∙ ap (λ (l : List Prepared). slice_get l u) (sym put) ∙ at_p in
        let same' : one ≡ p = cc in
        subst (λ h. IsPrepared h p) same (subst (IsPrepared graph) same' is)
    | inr ne ↦
        let low : u < count = omega (arith, slice_get_within new u p at_p, ap (λ (l : List Prepared). length l) put, length_push now one, so_far.long, ne) in
        so_far.are u g p at_u (sym (get_left now (one ∷ []) u (omega (arith, low, so_far.long))) ∙ ap (λ (l : List Prepared). slice_get l u) (sym put) ∙ at_p)
  ];
}

-- ---- what units ask for

-- one unit more
pub lists_more : (graphs : List GraphShape) (count : ℕ) (one : UnitAsks) (now new : List UnitAsks) → AreAskListsBelow graphs count now → FitsUnit graphs count one → new ≡ now ++ one ∷ [] → AreAskListsBelow graphs (count + 1) new
lists_more graphs count one now new so_far fits put = record {
  long = ap (λ (l : List UnitAsks). length l) put ∙ length_push now one ∙ ap (λ n. n + 1) so_far.long;
  each = λ u asks at. elim (get_push now one asks u (sym (ap (λ (l : List UnitAsks). slice_get l u) put) ∙ at)) as (λ _. FitsUnit graphs u asks) [
    | inl was ↦ so_far.each u asks was
    | inr here ↦ subst (FitsUnit graphs u) here.1 (subst (λ n. FitsUnit graphs n one) (sym (here.0 ∙ so_far.long)) fits)
  ];
}
