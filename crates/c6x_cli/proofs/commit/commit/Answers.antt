use Rattle.c6x_cli.proofs.commit.commit.Goals as goal

pub returns-in-Run-clause-carries : goal.returns-in-Run-clause-carries
returns-in-Run-clause-carries g c = λ err. rw c.in-Run.is (c.commit_run.ensures (g.S.Shelf.seen c.args.shelf.now) err)

pub returns-in-Dis-clause-carries : goal.returns-in-Dis-clause-carries
returns-in-Dis-clause-carries g c = λ err. rw c.in-Dis.is (c.commit_dis.ensures (g.S.Shelf.seen c.args.shelf.now) err c.args.board.now _)

pub returns-in-Show-clause-carries : goal.returns-in-Show-clause-carries
returns-in-Show-clause-carries g c = λ err. rw c.in-Show.is (c.commit_show.ensures (g.S.Shelf.seen c.args.shelf.now) err c.args.board.now _)

pub returns-in-Generate-clause-carries : goal.returns-in-Generate-clause-carries
returns-in-Generate-clause-carries g c = λ err. rw c.in-Generate.is (c.commit_generated.ensures (g.S.Shelf.seen c.args.shelf.now) err)
