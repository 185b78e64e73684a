-- Commands, what is due for an input by the command, what the host answers, what it promises of a run, and devices that
-- tell their bytes: Commands, Due, Answers, Served, Hosted and OneServing.
-- CommandLaws is a theorem. Replies and Migrating say what private functions do,
-- and nobody has to believe them.
pub mod Commands
pub mod Due
pub mod Answers
pub mod Served
pub mod Hosted
pub mod OneServing
pub mod CommandLaws
pub mod Replies
pub mod Migrating
