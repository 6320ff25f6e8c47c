use Rattle.walk_law.proofs.printed.Printed.add_answer.Goals as goal

pub returns-in-Pulled : goal.returns-in-Pulled
returns-in-Pulled c = rw c.in-Pulled.is (c.add_pull.ensures c.in-Pulled.nodes)

pub returns-in-Based : goal.returns-in-Based
returns-in-Based c = rw c.in-Based.is (c.add_trim.ensures c.in-Based.base)
