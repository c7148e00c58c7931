use Rattle.path_laws.proofs.heads.come_along.Goals as goal

pub out_of_blocks-requires : goal.out_of_blocks-requires
out_of_blocks-requires g c = record {
  listed = rw c.requires.count c.requires.flow;
  seeds_are = λ block low. rw (← c.requires.count) low;
}

pub joined_over-requires-clause-edges : goal.joined_over-requires-clause-edges
joined_over-requires-clause-edges g c = rw (c.requires.count, c.deref.ensures.value) c.requires.flow.flow.are.ends

pub returns : goal.returns
returns g c = record {
  out = c.in_ok-out.out;
  leads = c.in_ok-out.ensures.out;
  brought = rw (← c.requires.count, ← c.deref.ensures.value) c.in_ok-rows.ensures;
}
