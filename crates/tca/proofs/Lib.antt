pub mod HeadLaws
pub mod VerdictLaws
pub mod FreshLaws
pub mod Once
pub mod ReplyLaws
pub mod RunLaws
pub mod Rules
