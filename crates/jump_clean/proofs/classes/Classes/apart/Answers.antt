use Rattle.std.proofs.Common.{◌≡◌, ◌∙◌, ◌+◌, ◌++◌, ◌∷◌, [], ap, arith, length, map, refl}
use Rattle.std.proofs.lemmas.List.{map-append, length_push}
use Rattle.flow_graph.specs.ListLaws.{table_push}
use Rattle.jump_clean.proofs.Moves.{alone}
use Rattle.jump_clean.proofs.classes.Classes.apart.Goals as goal

pub loop-n-preserved : goal.loop-n-preserved
loop-n-preserved c =
    let inv = c.loop-n.invariant in
    let n = c.loop-n.n in
    let lists = map (λ v. v.items) c.loop-n.members.items in
    let pushed : map (λ v. v.items) c.push-in-loop-n.new.self.items ≡ lists ++ (n ∷ []) ∷ [] =
    ap (map (λ v. v.items)) c.in_ok-push-2.ensures.items ∙ map-append (λ v. v.items) c.loop-n.members.items (c.one.result ∷ []) ∙ ap (λ l. lists ++ l ∷ []) c.one.ensures in
    record {
      long = ap length c.in_ok-push.ensures.items ∙ length_push c.loop-n.of.items n ∙ ap (λ k. k + 1) inv.long;
      members_long = ap length pushed ∙ length_push lists (n ∷ []) ∙ ap (λ k. k + 1) inv.members_long;
      own = table_push (λ k x. x ≡ k) 0 c.loop-n.of.items c.push.new.self.items n n c.in_ok-push.ensures.items inv.long inv.own refl;
      single = table_push (λ k x. x ≡ k ∷ []) [] lists (map (λ v. v.items) c.push-in-loop-n.new.self.items) n (n ∷ []) pushed inv.members_long inv.single refl;
    }

pub returns-clause-members : goal.returns-clause-members
returns-clause-members c =
    let inv = c.loop-n.invariant in
    let all : c.loop-n.n ≡ c.args.nodes = omega (arith, c.loop-n-test.false, c.loop-n.auto.n-end) in
    alone c.loop-n.of.items (map (λ v. v.items) c.loop-n.members.items) c.loop-n.n inv.long inv.members_long inv.own inv.single
