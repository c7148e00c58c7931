-- Statements on paths, of bits that are equal at the nodes to others: they hold of the others too.
use Rattle.std.proofs.Common.{◌≡◌, ℕ, ◌<◌, Bool, true, not, ◌&&◌, List, [], ◌∷◌, length, inl, inr, refl, sym, ◌∙◌}
use Rattle.std.proofs.lemmas.Bool.{and_parts, not-true}
use Rattle.flow_graph.specs.declared.nodes.Node.{Node}
use Rattle.flow_graph.specs.Paths.{HasEdge, IsPath, Trace, from_start, goes_on}
use Rattle.flow_graph.specs.BoundLaws.{edge_within}
use Rattle.path_laws.specs.Paths.{BornAfter, BornBefore, EndsWell, Meets, Since}
use Rattle.motion_rewrite.specs.Placements.{ReachesAlong}
use Rattle.down_safe.specs.Bits.{IsAvailableBit}

module _ (nodes : List Node) where
  -- equal at each node
  abbrev pub Alike : (ℕ → Bool) → (ℕ → Bool) → Type 0
  Alike f g = (n : ℕ) → n < length nodes → f n ≡ g n

  -- the other way round
  alike_back : (f g : ℕ → Bool) → Alike f g → Alike g f
  alike_back f g same n h = sym (same n h)

  -- an edge leaves a node that is there
  from_within : {m n : ℕ} → HasEdge nodes m n → m < length nodes
  from_within {m = m} {n = n} edge = edge_within nodes m n edge

  -- ---- paths from a node

  -- a path ends well by the one as by the other, and meets a born bit
  ends_alike : (stop stop' : ℕ → Bool) → Alike stop stop' → (path : List ℕ) → IsPath nodes path → EndsWell nodes stop path → EndsWell nodes stop' path
  ends_alike stop stop' same [] is ends = absurd is
  ends_alike stop stop' same (n ∷ []) is (inl stops) = inl (sym (same n is) ∙ stops)
  ends_alike stop stop' same (n ∷ []) is (inr returns) = inr returns
  ends_alike stop stop' same (m ∷ n ∷ path) is ends = (sym (same m (from_within is.0)) ∙ ends.0, ends_alike stop stop' same (n ∷ path) is.1 ends.1)

  meets_alike : (born born' : ℕ → Bool) → Alike born born' → (path : List ℕ) → IsPath nodes path → Meets born path → Meets born' path
  meets_alike born born' same [] is meets = absurd is
  meets_alike born born' same (n ∷ []) is (inl b) = inl (sym (same n is) ∙ b)
  meets_alike born born' same (n ∷ []) is (inr none) = absurd none
  meets_alike born born' same (m ∷ n ∷ path) is (inl b) = inl (sym (same m (from_within is.0)) ∙ b)
  meets_alike born born' same (m ∷ n ∷ path) is (inr later) = inr (meets_alike born born' same (n ∷ path) is.1 later)

  -- so the bit is born after a node alike
  pub after_alike : (born born' stop stop' : ℕ → Bool) → Alike born born' → Alike stop stop' → (n : ℕ) → BornAfter nodes born stop n → BornAfter nodes born' stop' n
  after_alike born born' stop stop' same_born same_stop n all path is begins ends =
      meets_alike born born' same_born path is (all path is begins (ends_alike stop' stop (alike_back stop stop' same_stop) path is ends))

  -- ---- paths to a node

  -- a use reaches along a path by the one as by the other
  reaches_alike : (used used' killed killed' : ℕ → Bool) → Alike used used' → Alike killed killed' → (n : ℕ) (before : List ℕ) → Trace nodes n before
      → ReachesAlong (λ m. used m ≡ true) killed before → ReachesAlong (λ m. used' m ≡ true) killed' before
  reaches_alike used used' killed killed' same_used same_killed n before from_start reaches = absurd reaches
  reaches_alike used used' killed killed' same_used same_killed n before (goes_on m k earlier trace edge) reaches =
      let h = from_within edge in (
        sym (same_killed m h) ∙ reaches.0,
        elim reaches.1 [
          | inl used ↦ inl (sym (same_used m h) ∙ used)
          | inr more ↦ inr (reaches_alike used used' killed killed' same_used same_killed m earlier trace more)
        ],
      )

  -- so it is available alike
  pub available_alike : (used used' killed killed' : ℕ → Bool) → Alike used used' → Alike killed killed' → (n : ℕ) → IsAvailableBit nodes used killed n → IsAvailableBit nodes used' killed' n
  available_alike used used' killed killed' same_used same_killed n all before trace = reaches_alike used used' killed killed' same_used same_killed n before trace (all before trace)

  -- what is born where it is used and not killed, and stopped where it is killed, is born before a node exactly where
  -- it is available there
  module _ (born used killed : ℕ → Bool) (is : (n : ℕ) → n < length nodes → born n ≡ (used n && not (killed n))) where
    -- along one path
    since_reaches : (n : ℕ) (before : List ℕ) → Trace nodes n before → Since born killed before → ReachesAlong (λ m. used m ≡ true) killed before
    since_reaches n before from_start since = absurd since
    since_reaches n before (goes_on m k earlier trace edge) (inl b) =
        let both = and_parts (used m) (not (killed m)) (sym (is m (from_within edge)) ∙ b) in
        (not-true (killed m) both.1, inl both.0)
    since_reaches n before (goes_on m k earlier trace edge) (inr more) = (more.0, inr (since_reaches m earlier trace more.1))

    reaches_since : (n : ℕ) (before : List ℕ) → Trace nodes n before → ReachesAlong (λ m. used m ≡ true) killed before → Since born killed before
    reaches_since n before from_start reaches = absurd reaches
    reaches_since n before (goes_on m k earlier trace edge) reaches = elim reaches.1 [
      | inl use_here ↦ inl (is m (from_within edge) ∙ rw (use_here, reaches.0) refl)
      | inr more ↦ inr (reaches.0, reaches_since m earlier trace more)
    ]

    -- along all paths
    pub available_from_born : (n : ℕ) → BornBefore nodes born killed n → IsAvailableBit nodes used killed n
    available_from_born n all before trace = since_reaches n before trace (all before trace)

    pub born_from_available : (n : ℕ) → IsAvailableBit nodes used killed n → BornBefore nodes born killed n
    born_from_available n all before trace = reaches_since n before trace (all before trace)
