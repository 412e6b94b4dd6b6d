pub mod EmptyTable
pub mod FiguresTold
pub mod Covering
pub mod Steps
pub mod NewLines
pub mod CallLists
