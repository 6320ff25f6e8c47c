use Rattle.run_picture.proofs.labels.put_node.Goals as goal

pub returns-in-Ruled-Some-default-default-default-default-default-default :
    goal.returns-in-Ruled-Some-default-default-default-default-default-default
returns-in-Ruled-Some-default-default-default-default-default-default g c =
    let arm = c.in-Ruled-Some-default-default-default-default-default-default in
    let key = rw arm.is at arm.conflict-is in
    rw arm.is (rw key (rw c.as_bytes-in-Ruled-Some-default-default-default-default-default-default.ensures at c.put_all-in-Ruled-Some-default-default-default-default-default-default.ensures))
